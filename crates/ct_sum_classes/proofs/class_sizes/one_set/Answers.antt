use Rattle.std.proofs.Common.{◌≡◌, ℕ, zero, suc, ◌-◌, ◌≤◌, ◌∷◌, get_or, replicate, sym, ◌∙◌}
use Rattle.ct_words.specs.declared.limits.TheConstants.{MAX_N}
use Rattle.ct_sum_classes.specs.Inside.Sizes.{size_of}
use Rattle.ct_sum_classes.proofs.SizeLemmas.{zeros, size-empty, size-empty_other}
use Rattle.ct_sum_classes.proofs.class_sizes.one_set.Goals as goal

-- one at 0, and zeros after it
one_at_first : (n : ℕ) → 1 ≤ n → (s : ℕ) → get_or (1 ∷ replicate (MAX_N - 1) 0) s 0 ≡ size_of n 0 0 s
one_at_first n some zero = sym (size-empty n some)
one_at_first n some (suc s) = zeros (MAX_N - 1) s ∙ sym (size-empty_other n s some)

pub returns : goal.returns
returns c = λ n some s within. one_at_first n some s
