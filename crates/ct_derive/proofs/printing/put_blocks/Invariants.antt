use Rattle.std.proofs.Common.{◌≡◌, ◌++◌, take}
use Rattle.std.specs.Prelude.{slice_get}
use Rattle.std.specs.List.{flat_map}
use Rattle.ct_derive.specs.Text.{block_text}
use Rattle.ct_derive.proofs.printing.put_blocks.Given as goal

abbrev pub invariant-loop-place : goal.invariant-loop-place
invariant-loop-place g l = l.text.items
    ≡ l.fn.text.items ++ flat_map (λ p. block_text g.P.ShownPiece.id_of g.P.ShownPiece.document_of (slice_get l.pieces p)) (take l.place-index l.places)
