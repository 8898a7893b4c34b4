use Rattle.std.proofs.Common.{◌≡◌, ◌<◌, List, false, Err, length, subst, ◌∙◌}
use Rattle.std.proofs.lemmas.Result.{err_from_is_err_and}
use Rattle.ct_piece.specs.Piece.{PieceValue, has_id}
use Rattle.ct_piece.specs.Codes.{codes_of}
use Rattle.ct_piece.specs.Submission.{submitted}
use Rattle.ct_piece.specs.declared.limits.TheConstants.{MAX_PIECES}
use Rattle.ct_piece.proofs.StandingLemmas.{submitted-beside}
use Rattle.ct_pieces.proofs.pieces.Pieces.submit_text.Goals as goal

pub returns-in_err-stated-clause-fault : goal.returns-in_err-stated-clause-fault
returns-in_err-stated-clause-fault c =
    let items = c.self.inside.pieces.items in
    let f = c.in_err-stated.field-0.0 in
    let free = subst (λ (ps : List PieceValue). has_id c.args.id ps ≡ false) c.deref.ensures.value c.in_ok-room_for.ensures.free in
    let room = subst (λ (ps : List PieceValue). length ps < MAX_PIECES) c.deref.ensures.value c.in_ok-room_for.ensures.room in
    let p = err_from_is_err_and c.from_residual-in_err-stated.result c.from_residual-in_err-stated.ensures.1 in
    rw (p.1, p.2)
    (λ other. subst (λ (ps : List PieceValue). submitted ps c.args.id c.args.document ≡ Err f) c.self.view_is
    (submitted-beside items c.args.id c.args.document (Err f) free room (c.in_err-stated.ensures.fault other (codes_of items) c.args.id)))

pub put_read-requires-clause-free : goal.put_read-requires-clause-free
put_read-requires-clause-free c =
    subst (λ (ps : List PieceValue). has_id c.args.id ps ≡ false) (c.deref.ensures.value ∙ c.self.view_is) c.in_ok-room_for.ensures.free

pub put_read-requires-clause-room : goal.put_read-requires-clause-room
put_read-requires-clause-room c =
    subst (λ (ps : List PieceValue). length ps < MAX_PIECES) (c.deref.ensures.value ∙ c.self.view_is) c.in_ok-room_for.ensures.room

pub returns-clause-accepted : goal.returns-clause-accepted
returns-clause-accepted c = c.put_read.ensures.accepted

pub returns-clause-supports : goal.returns-clause-supports
returns-clause-supports c = c.put_read.ensures.supports

pub returns-clause-standing : goal.returns-clause-standing
returns-clause-standing c = c.put_read.ensures.standing

pub returns-clause-fault : goal.returns-clause-fault
returns-clause-fault c = c.put_read.ensures.fault

pub returns-clause-unchanged : goal.returns-clause-unchanged
returns-clause-unchanged c = c.put_read.ensures.unchanged

pub put_read-requires-clause-named : goal.put_read-requires-clause-named
put_read-requires-clause-named c = c.in_ok-room_for.ensures.id

pub put_read-requires-clause-read : goal.put_read-requires-clause-read
put_read-requires-clause-read c = c.in_ok-stated.ensures.stated
