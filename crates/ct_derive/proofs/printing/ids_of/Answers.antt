use Rattle.std.proofs.Common.{map, ap, ◌∙◌}
use Rattle.std.proofs.lemmas.List.{take_all}
use Rattle.ct_derive.proofs.ListedItems.{listed_more}
use Rattle.ct_derive.proofs.printing.ids_of.Goals as goal

pub loop-piece-init : goal.loop-piece-init
loop-piece-init g c = c.new-ids.ensures.items

pub loop-piece-preserved : goal.loop-piece-preserved
loop-piece-preserved g c =
    listed_more g.P.ShownPiece.id_of c.args.pieces.now c.loop-piece.piece-index c.piece-item.result c.loop-piece.ids.items c.push.new.self.items c.id.result
    c.loop-piece-test.true c.in_ok-push.ensures.items c.loop-piece.invariant (c.id.ensures ∙ ap g.P.ShownPiece.id_of c.piece-item.is)

pub returns : goal.returns
returns g c = c.loop-piece.invariant ∙ ap (map g.P.ShownPiece.id_of) (take_all c.loop-piece.piece-index c.args.pieces.now c.loop-piece-test.false)
