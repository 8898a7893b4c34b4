use Rattle.std.proofs.Common.{◌≡◌, ◌+◌, ◌-◌, List, Option, Some, None, Ok, option_map, sym, ap, ◌∙◌, subst, arith}
use Rattle.std.specs.Prelude.{remove}
use Rattle.ct_words.specs.Code.{CodeValue}
use Rattle.ct_piece.specs.Piece.{PieceValue, first_user, stored_words}
use Rattle.ct_piece.specs.Withdrawal.{withdrawn}
use Rattle.ct_piece.specs.Piece.{place_of_id}
use Rattle.ct_piece.specs.Inside.Kept.{kept_codes, AreKept}
use Rattle.ct_pieces.proofs.BuildPlaces.{kept-long}
use Rattle.ct_piece.proofs.KeptLemmas.{kept-without}
use Rattle.ct_piece.proofs.SupportLemmas.{place_of_id-some, withdrawn-left, left_standing}
use Rattle.ct_pieces.proofs.pieces.Pieces.take_out.Goals as goal

pub take_at-requires-clause-place : goal.take_at-requires-clause-place
take_at-requires-clause-place c =
    let items = c.self.inside.pieces.items in
    let is = subst (λ (ps : List PieceValue). place_of_id c.args.id ps ≡ Some c.args.place) (sym c.self.view_is) c.requires.place in
    (place_of_id-some c.args.id items c.args.place c.self.invariant.0.different is).within

pub take_at-requires-clause-long : goal.take_at-requires-clause-long
take_at-requires-clause-long c = kept-long c.self.inside.kept.items c.self.inside.pieces.items c.self.invariant.2

pub overflow_sub-self : goal.overflow_sub-self
overflow_sub-self c = let sum = c.take_at.ensures.stored in let whole = c.self.invariant.1 in omega arith

pub invariant_of-self : goal.invariant_of-self
invariant_of-self c =
    let items = c.self.inside.pieces.items in
    let place = c.args.place in
    let is = subst (λ (ps : List PieceValue). place_of_id c.args.id ps ≡ Some place) (sym c.self.view_is) c.requires.place in
    let free = subst (λ (ps : List PieceValue). option_map (λ (p : PieceValue). p.id) (first_user c.args.id ps) ≡ None) (sym c.self.view_is) c.requires.free in
    let left = left_standing c.args.id items place c.self.invariant.0 is free in
    let codes = c.self.inside.kept.items in
    let rest = subst (AreKept (remove codes place)) (sym left.kept) (kept-without codes (kept_codes items) place c.self.invariant.2) in
    let kept = subst (λ (ks : List (Option CodeValue)). AreKept ks (kept_codes (remove items place))) (sym c.take_at.ensures.kept) rest in
    let sum = subst (λ (ps : List PieceValue). stored_words ps + c.take_at.result ≡ stored_words items) c.take_at.ensures.pieces c.take_at.ensures.stored in
    let whole = c.self.invariant.1 in
    let stored : c.self.inside.stored - c.take_at.result ≡ stored_words (remove items place) = omega (arith, sum, whole) in
    rw c.take_at.ensures.pieces (left.standing, stored, kept)

pub returns-clause-left : goal.returns-clause-left
returns-clause-left c =
    let items = c.self.inside.pieces.items in
    let place = c.args.place in
    let is = subst (λ (ps : List PieceValue). place_of_id c.args.id ps ≡ Some place) (sym c.self.view_is) c.requires.place in
    let free = subst (λ (ps : List PieceValue). option_map (λ (p : PieceValue). p.id) (first_user c.args.id ps) ≡ None) (sym c.self.view_is) c.requires.free in
    subst (λ (ps : List PieceValue). withdrawn ps c.args.id ≡ Ok c.take_at.new.pieces.items) c.self.view_is
    (withdrawn-left c.args.id items place c.self.invariant.0.different is free ∙ ap Ok (sym c.take_at.ensures.pieces))

pub returns-clause-pieces : goal.returns-clause-pieces
returns-clause-pieces c = c.take_at.ensures.pieces ∙ ap (λ (ps : List PieceValue). remove ps c.args.place) c.self.view_is
