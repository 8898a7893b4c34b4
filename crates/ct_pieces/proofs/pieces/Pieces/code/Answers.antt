use Rattle.std.proofs.Common.{List, Option, length, sym, ap, ◌∙◌, ◌≡◌, ◌<◌, [], Some, IfOk, subst}
use Rattle.ct_words.specs.Code.{CodeValue}
use Rattle.ct_piece.specs.Piece.{PieceValue}
use Rattle.ct_pieces.proofs.BuildPlaces.{kept-long}
use Rattle.std.specs.Prelude.{IsSome}
use Rattle.ct_piece.specs.Codes.{code_of_place}
use Rattle.ct_piece.specs.Standing.{AreMade}
use Rattle.ct_piece.specs.Inside.Kept.{kept_codes, AreKept}
use Rattle.ct_pieces.proofs.pieces.Pieces.code.Goals as goal

pub code_at_place-requires-clause-long : goal.code_at_place-requires-clause-long
code_at_place-requires-clause-long c =
    ap (λ (ks : List (Option CodeValue)). length ks) c.deref-3.ensures.value ∙ kept-long c.keep_code.new.kept.items c.deref.result.now c.keep_code.ensures.kept
    ∙ ap (λ (ps : List PieceValue). length ps) (c.deref.ensures.value ∙ sym c.deref-2.ensures.value)

pub keep_code-requires-clause-made : goal.keep_code-requires-clause-made
keep_code-requires-clause-made c =
    subst (λ (ps : List PieceValue). AreMade [] ps)
    (sym c.deref.ensures.value) c.self.invariant.0.made

pub keep_code-requires-clause-kept : goal.keep_code-requires-clause-kept
keep_code-requires-clause-kept c =
    subst (λ (ps : List PieceValue). AreKept c.self.inside.kept.items (kept_codes ps))
    (sym c.deref.ensures.value) c.self.invariant.2

pub keep_code-requires-clause-place : goal.keep_code-requires-clause-place
keep_code-requires-clause-place c =
    subst (λ (ps : List PieceValue). c.args.place < length ps)
    (sym (c.deref.ensures.value ∙ c.self.view_is)) c.requires.place

pub invariant_of-self : goal.invariant_of-self
invariant_of-self c =
    let kept = subst (λ (ps : List PieceValue). AreKept c.keep_code.new.kept.items (kept_codes ps)) c.deref.ensures.value c.keep_code.ensures.kept in
    (c.self.invariant.0, c.self.invariant.1, kept)

pub code_at_place-requires-clause-made : goal.code_at_place-requires-clause-made
code_at_place-requires-clause-made c =
    subst (λ (ps : List PieceValue). AreMade [] ps)
    (sym c.deref-2.ensures.value) c.self.invariant.0.made

pub code_at_place-requires-clause-place : goal.code_at_place-requires-clause-place
code_at_place-requires-clause-place c =
    subst (λ (ps : List PieceValue). c.args.place < length ps)
    (sym (c.deref-2.ensures.value ∙ c.self.view_is)) c.requires.place

pub code_at_place-requires-clause-coded : goal.code_at_place-requires-clause-coded
code_at_place-requires-clause-coded c =
    subst (λ (ps : List PieceValue). IsSome (code_of_place ps c.args.place))
    (sym (c.deref-2.ensures.value ∙ c.self.view_is)) c.requires.coded

pub invariant_of-self-2 : goal.invariant_of-self-2
invariant_of-self-2 c =
    let kept = subst (λ (ps : List PieceValue). AreKept c.keep_code.new.kept.items (kept_codes ps)) c.deref.ensures.value c.keep_code.ensures.kept in
    (c.self.invariant.0, c.self.invariant.1, kept)

pub returns-clause-code : goal.returns-clause-code
returns-clause-code c =
    subst (λ (ps : List PieceValue). IfOk c.code_at_place.result (λ (code : CodeValue). code_of_place ps c.args.place ≡ Some code))
    (c.deref-2.ensures.value ∙ c.self.view_is)
    c.code_at_place.ensures
