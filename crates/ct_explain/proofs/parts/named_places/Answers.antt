use Rattle.std.proofs.Common.{ℕ, ◌++◌, ◌∷◌, [], List, ap, sym, ◌∙◌}
use Rattle.ct_files.specs.ByKind.{names}
use Rattle.ct_piece.specs.Piece.{PieceValue}
use Rattle.ct_explain.proofs.PartPlaces.{place_found, place_passed}
use Rattle.ct_explain.proofs.parts.named_places.Goals as goal
use Rattle.ct_explain.proofs.parts.named_places.Goals.{then-names+in_ok-push, else-names}

pub loop-place-preserved : goal.loop-place-preserved
loop-place-preserved c =
    let test = λ (q : PieceValue). names c.args.piece.now.evidence q.id in
    let q = c.index-pieces-place.result in
    let named = c.names.ensures ∙ ap (names c.args.piece.now.evidence) c.id.ensures in
    elim c.if-names.branch [
      | then-names+in_ok-push w ↦
          rw (w.places-is, w.in_ok-push.ensures.ok)
          (ap (λ (ps : List ℕ). ps ++ c.loop-place.place ∷ []) c.loop-place.invariant
          ∙ place_found test c.args.pieces.now c.loop-place.place q c.loop-place-test.true c.index-pieces-place.is (sym named ∙ w.if-names.true))
      | else-names w ↦
          rw w.places-is
          (c.loop-place.invariant
          ∙ place_passed test c.args.pieces.now c.loop-place.place q c.loop-place-test.true c.index-pieces-place.is (sym named ∙ w.if-names.false))
    ]
