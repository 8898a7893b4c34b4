use Rattle.std.proofs.Common.{◌≡◌}
use Rattle.ct_sample.specs.Drawn.{golay_words}
use Rattle.ct_sample.proofs.drawing.golay_words.Given as goal

abbrev pub invariant-loop-place : goal.invariant-loop-place
invariant-loop-place l = l.words.items ≡ golay_words l.place
