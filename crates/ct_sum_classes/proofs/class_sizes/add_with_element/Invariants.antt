use Rattle.std.proofs.Common.{◌≡◌, ℕ, ◌+◌, ◌-◌, ◌%◌, ◌<◌, ◌≤◌, length, get_or}
use Rattle.ct_words.specs.declared.limits.TheConstants.{MAX_N}
use Rattle.ct_sum_classes.proofs.class_sizes.add_with_element.Given as goal

-- the sums so far, those below the element first, and the others as they were
abbrev pub invariant-loop-sum : goal.invariant-loop-sum
invariant-loop-sum l = record {
  room : length l.row ≡ MAX_N;
  sums : (s : ℕ) → s < l.sum → get_or l.row s 0 ≡ get_or l.fn.row s 0 + get_or l.fewer ((s + (l.n - l.element)) % l.n) 0;
  left : (s : ℕ) → l.sum ≤ s → get_or l.row s 0 ≡ get_or l.fn.row s 0;
}

abbrev pub invariant-loop-sum-2 : goal.invariant-loop-sum-2
invariant-loop-sum-2 l = record {
  room : length l.row ≡ MAX_N;
  sums : (s : ℕ) → s < l.sum → get_or l.row s 0 ≡ get_or l.fn.row s 0 + get_or l.fewer ((s + (l.n - l.element)) % l.n) 0;
  left : (s : ℕ) → l.sum ≤ s → get_or l.row s 0 ≡ get_or l.fn.row s 0;
}
