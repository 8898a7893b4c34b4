use Rattle.std.proofs.lemmas.Result.{err_from_is_err_and}
use Rattle.ct_piece.specs.Codes.{codes_of}
use Rattle.ct_pieces.proofs.Putting.{refused-checked, refused-stored}
use Rattle.std.proofs.Common.{List, Option, [], sym, subst}
use Rattle.ct_words.specs.Code.{CodeValue}
use Rattle.ct_piece.specs.Piece.{PieceValue}
use Rattle.ct_piece.specs.Standing.{AreMade}
use Rattle.ct_piece.specs.Inside.Kept.{kept_codes, AreKept}
use Rattle.ct_pieces.proofs.check.accept.Goals as goal

pub returns-in_err-checked-clause-fault : goal.returns-in_err-checked-clause-fault
returns-in_err-checked-clause-fault c =
    let check = rw c.deref.ensures.value at c.in_err-checked.ensures.check in
    let p = err_from_is_err_and c.from_residual.result c.from_residual.ensures.1 in
    rw (p.1, p.2) (λ other. refused-checked c.args.stored (codes_of c.args.pieces.now.items) c.args.evidence.now _ (check.fault other))

pub returns-in_err-total-clause-fault : goal.returns-in_err-total-clause-fault
returns-in_err-total-clause-fault c =
    let check = rw c.deref.ensures.value at c.in_ok-checked.ensures.check in
    let p = err_from_is_err_and c.from_residual-in_err-total.result c.from_residual-in_err-total.ensures.1 in
    rw (p.1, p.2)
    (λ other. refused-stored c.args.stored (codes_of c.args.pieces.now.items) c.args.evidence.now c.in_ok-checked.checked _ check (c.in_err-total.ensures.fault other))

pub returns-clause-check : goal.returns-clause-check
returns-clause-check c = rw c.deref.ensures.value at c.in_ok-checked.ensures.check

pub returns-in_err-total-clause-codes : goal.returns-in_err-total-clause-codes
returns-in_err-total-clause-codes c =
    let codes = subst (λ (ps : List PieceValue). AreKept c.check.new.kept.items (kept_codes ps)) c.deref.ensures.value c.check.ensures.codes in
    subst (λ (ks : List (Option CodeValue)). AreKept ks (kept_codes c.args.pieces.now.items)) (sym c.make_room.ensures.kept) codes

pub returns-clause-codes : goal.returns-clause-codes
returns-clause-codes c =
    let codes = subst (λ (ps : List PieceValue). AreKept c.check.new.kept.items (kept_codes ps)) c.deref.ensures.value c.check.ensures.codes in
    subst (λ (ks : List (Option CodeValue)). AreKept ks (kept_codes c.args.pieces.now.items)) (sym c.in_ok-total.ensures.kept) codes

pub returns-clause-total : goal.returns-clause-total
returns-clause-total c = c.in_ok-total.ensures.total

pub returns-clause-few : goal.returns-clause-few
returns-clause-few c = c.in_ok-total.ensures.few

pub returns-clause-pieces : goal.returns-clause-pieces
returns-clause-pieces c = c.in_ok-total.ensures.pieces

pub returns-clause-piece_room : goal.returns-clause-piece_room
returns-clause-piece_room c = c.in_ok-total.ensures.piece_room

pub returns-clause-code_room : goal.returns-clause-code_room
returns-clause-code_room c = c.in_ok-total.ensures.code_room

pub check-requires-clause-standing : goal.check-requires-clause-standing
check-requires-clause-standing c = subst (λ (ps : List PieceValue). AreMade [] ps) (sym c.deref.ensures.value) c.requires.standing

pub check-requires-clause-kept : goal.check-requires-clause-kept
check-requires-clause-kept c = subst (λ (ps : List PieceValue). AreKept c.args.kept.now.items (kept_codes ps)) (sym c.deref.ensures.value) c.requires.kept

pub make_room-requires-clause-sound : goal.make_room-requires-clause-sound
make_room-requires-clause-sound c = c.requires.sound

pub make_room-requires-clause-stored : goal.make_room-requires-clause-stored
make_room-requires-clause-stored c = c.requires.stored

pub returns-in_err-total-clause-pieces : goal.returns-in_err-total-clause-pieces
returns-in_err-total-clause-pieces c = c.make_room.ensures.pieces
