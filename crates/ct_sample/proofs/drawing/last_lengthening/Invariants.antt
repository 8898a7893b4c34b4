use Rattle.std.proofs.Common.{◌≡◌, take}
use Rattle.ct_sample.specs.Drawn.{last_lengthening}
use Rattle.ct_sample.proofs.drawing.last_lengthening.Given as goal

abbrev pub invariant-loop-piece : goal.invariant-loop-piece
invariant-loop-piece l = l.found ≡ last_lengthening (take l.piece-index l.pieces)
