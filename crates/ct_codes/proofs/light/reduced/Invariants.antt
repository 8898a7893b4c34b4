use Rattle.std.proofs.Common.{◌≡◌, drop}
use Rattle.ct_codes.specs.Inside.Light.{reduced}
use Rattle.ct_codes.proofs.light.reduced.Given as goal

-- the pivots that are left make the same of what is left so far
abbrev pub invariant-loop-pivot : goal.invariant-loop-pivot
invariant-loop-pivot l = reduced (drop l.pivot-index l.pivots) l.rest ≡ reduced l.pivots l.word
