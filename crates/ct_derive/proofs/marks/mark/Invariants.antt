use Rattle.std.proofs.Common.{◌≡◌, drop}
use Rattle.ct_derive.specs.Pruning.{with_marks}
use Rattle.ct_derive.proofs.marks.mark.Given as goal

-- the marks of the places that are left are all
abbrev pub invariant-loop-place : goal.invariant-loop-place
invariant-loop-place l = with_marks l.places l.initial.marks ≡ with_marks (drop l.place-index l.places) l.marks
