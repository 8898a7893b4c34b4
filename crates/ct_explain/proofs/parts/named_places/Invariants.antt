use Rattle.std.proofs.Common.{◌≡◌, take}
use Rattle.ct_files.specs.ByKind.{names}
use Rattle.ct_explain.specs.Parts.{places_where}
use Rattle.ct_explain.proofs.parts.named_places.Given as goal

abbrev pub invariant-loop-place : goal.invariant-loop-place
invariant-loop-place l = l.places.items ≡ places_where (λ q. names l.piece.evidence q.id) 0 (take l.place l.pieces)
