use Rattle.std.proofs.Common.{◌≡◌, List, false, Err, sym, ap, ◌∙◌, subst}
use Rattle.ct_piece.specs.Piece.{PieceValue, has_id}
use Rattle.ct_piece.specs.Standing.{AreStanding}
use Rattle.ct_piece.specs.Withdrawal.{withdrawn_all}
use Rattle.ct_piece.specs.declared.fault.WithdrawFault.TheVariants as fault
use Rattle.ct_piece.proofs.AlongLemmas.{withdrawn_all-missing}
use Rattle.ct_pieces.proofs.pieces.Pieces.marks_to_leave.Goals as goal

pub returns-then-not-has_id-clause-fault : goal.returns-then-not-has_id-clause-fault
returns-then-not-has_id-clause-fault c = λ not_memory.
    let free : has_id c.args.id c.self.inside.pieces.items ≡ false =
    ap (has_id c.args.id) (sym c.deref.ensures.value) ∙ sym c.has_id.ensures.has ∙ c.if-not-has_id.true in
    subst (λ (ps : List PieceValue). withdrawn_all ps c.args.id ≡ Err fault.NoSuch) c.self.view_is
    (withdrawn_all-missing c.self.inside.pieces.items c.args.id free)

pub marks_along-requires : goal.marks_along-requires
marks_along-requires c = subst (λ (ps : List PieceValue). AreStanding ps) (sym c.deref-2.ensures.value) c.self.invariant.0
