use Rattle.std.proofs.Common.{◌≡◌, ℕ, ◌+◌, ◌<◌, length}
use Rattle.std.specs.Prelude.{slice_get, Some}
use Rattle.ct_words.specs.declared.limits.TheConstants.{MAX_N}
use Rattle.ct_sum_classes.specs.SumClass.{largest_class, sum_class}
use Rattle.ct_sum_classes.proofs.largest_class.largest_sum_classes.Given as goal

-- the weights so far have their largest classes
abbrev pub invariant-loop-w : goal.invariant-loop-w
invariant-loop-w l = (length l.classes ≡ MAX_N + 1) × ((w : ℕ) → w < l.w → slice_get l.classes w
    ≡ Some (record { residue = largest_class l.n w; size = length (sum_class l.n w (largest_class l.n w)) }))
