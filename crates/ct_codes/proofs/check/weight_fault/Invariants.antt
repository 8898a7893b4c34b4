use Rattle.std.proofs.Common.{◌≡◌, ℕ, ◌<◌, get_or}
use Rattle.ct_words.specs.Word.{weight}
use Rattle.ct_codes.proofs.check.weight_fault.Given as goal

abbrev pub invariant-loop-place : goal.invariant-loop-place
invariant-loop-place l = (k : ℕ) → k < l.place → weight 32 (get_or l.words k 0) ≡ l.w
