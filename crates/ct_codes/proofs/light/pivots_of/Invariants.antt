use Rattle.std.proofs.Common.{take}
use Rattle.ct_codes.specs.Inside.Light.{ArePivots}
use Rattle.ct_codes.proofs.light.pivots_of.Given as goal

abbrev pub invariant-loop-basis_word : goal.invariant-loop-basis_word
invariant-loop-basis_word l = ArePivots l.pivots.items (take l.basis_word-index l.basis)
