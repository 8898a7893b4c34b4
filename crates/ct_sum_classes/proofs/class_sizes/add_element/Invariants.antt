use Rattle.std.proofs.Common.{◌≡◌, ℕ, [], ◌+◌, ◌-◌, ◌<◌, ◌≤◌, length, get_or}
use Rattle.ct_words.specs.declared.limits.TheConstants.{MAX_N}
use Rattle.ct_sum_classes.specs.Inside.Sizes.{IsRow}
use Rattle.ct_sum_classes.proofs.class_sizes.add_element.Given as goal

-- the rows below `ones` count the element, the others do not, and `fewer` is the row before it as it was
abbrev pub invariant-loop-ones : goal.invariant-loop-ones
invariant-loop-ones l = record {
  room : length l.table ≡ MAX_N + 1;
  fewer : IsRow l.n l.element (l.ones - 1) l.fewer;
  done : (k : ℕ) → k < l.ones → IsRow l.n (l.element + 1) k (get_or l.table k []);
  left : (k : ℕ) → l.ones ≤ k → k ≤ l.w → IsRow l.n l.element k (get_or l.table k []);
}
