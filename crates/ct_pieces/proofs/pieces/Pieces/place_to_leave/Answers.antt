use Rattle.std.proofs.Common.{◌≡◌, List, Err, option_map, sym, ap, ◌∙◌, subst}
use Rattle.ct_piece.specs.Piece.{PieceValue, first_user}
use Rattle.ct_piece.specs.Withdrawal.{withdrawn}
use Rattle.ct_piece.specs.declared.fault.WithdrawFault.TheVariants as fault
use Rattle.ct_piece.specs.Piece.{place_of_id}
use Rattle.ct_piece.proofs.SupportLemmas.{withdrawn-missing, withdrawn-used}
use Rattle.ct_pieces.proofs.pieces.Pieces.place_to_leave.Goals as goal

pub returns-in_default-clause-fault : goal.returns-in_default-clause-fault
returns-in_default-clause-fault c =
    let is = ap (place_of_id c.args.id) (sym c.deref.ensures.value) ∙ sym c.place_of.ensures ∙ c.in_default.is in
    subst (λ (ps : List PieceValue). withdrawn ps c.args.id ≡ Err fault.NoSuch) c.self.view_is (withdrawn-missing c.args.id c.self.inside.pieces.items is)

pub returns-in-Some-first_user-clause-fault : goal.returns-in-Some-first_user-clause-fault
returns-in-Some-first_user-clause-fault c =
    let items = c.self.inside.pieces.items in
    let user = c.in-Some-first_user.user in
    let is = ap (place_of_id c.args.id) (sym c.deref.ensures.value) ∙ sym c.place_of.ensures ∙ c.in-Some.is in
    let used = ap (λ (ps : List PieceValue). option_map (λ (p : PieceValue). p.id) (first_user c.args.id ps)) (sym c.deref-2.ensures.value) ∙ sym c.first_user.ensures ∙ c.in-Some-first_user.is in
    subst (λ (ps : List PieceValue). withdrawn ps c.args.id ≡ Err (fault.InUse user)) c.self.view_is
    (withdrawn-used c.args.id items c.in-Some.place user c.self.invariant.0.different is used)
