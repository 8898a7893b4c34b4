use Rattle.ct_derive.specs.Pruning.{ArePlacesBelow}
use Rattle.ct_derive.proofs.marks.marked_places.Given as goal

abbrev pub invariant-loop-place : goal.invariant-loop-place
invariant-loop-place l = ArePlacesBelow l.place l.marks l.places.items
