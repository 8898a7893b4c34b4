use Rattle.std.proofs.Common.{◌≡◌, ◌+◌, ◌∷◌, ◌++◌, [], take, Bool, cond, Some, sym, ap, ◌∙◌}
use Rattle.std.proofs.lemmas.List.{take_more}
use Rattle.ct_piece.specs.Piece.{PieceValue}
use Rattle.ct_sample.specs.Drawn.{may_lengthen, lengthening, last_lengthening}
use Rattle.ct_sample.proofs.WithoutDocuments.{last-more}
use Rattle.ct_sample.proofs.drawing.last_lengthening.Goals as goal
use Rattle.ct_sample.proofs.drawing.last_lengthening.Goals.{then-may_lengthen, else-may_lengthen}

pub loop-piece-preserved : goal.loop-piece-preserved
loop-piece-preserved c =
    let ps = c.args.pieces.now in
    let i = c.loop-piece.piece-index in
    let p = c.piece-item.result in
    let items : take i ps ++ p ∷ [] ≡ take (i + 1) ps = ap (λ (q : PieceValue). take i ps ++ q ∷ []) c.piece-item.is ∙ sym (take_more ps i p c.loop-piece-test.true) in
    let more : cond (may_lengthen p) (Some (lengthening p)) (last_lengthening (take i ps)) ≡ last_lengthening (take (i + 1) ps) =
    sym (last-more (take i ps) p) ∙ ap last_lengthening items in
    elim c.if-may_lengthen.branch [
      | then-may_lengthen w ↦
          w.found-is ∙ ap Some (w.lengthening.ensures p (sym w.id.ensures) (sym w.entry.ensures))
          ∙ ap (λ (b : Bool). cond b (Some (lengthening p)) (last_lengthening (take i ps))) (sym w.if-may_lengthen.true ∙ c.may_lengthen.ensures) ∙ more
      | else-may_lengthen w ↦
          w.found-is ∙ c.loop-piece.invariant
          ∙ ap (λ (b : Bool). cond b (Some (lengthening p)) (last_lengthening (take i ps))) (sym w.if-may_lengthen.false ∙ c.may_lengthen.ensures) ∙ more
    ]
