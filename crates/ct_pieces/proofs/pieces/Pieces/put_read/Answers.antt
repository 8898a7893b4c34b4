use Rattle.std.proofs.Common.{ℕ, List, [], ◌∷◌, ◌++◌, Option, ◌≡◌, ◌≤◌, ◌<◌, false, Ok, Err, length, ap, sym, ◌∙◌, subst}
use Rattle.std.proofs.lemmas.Result.{err_from_is_err_and}
use Rattle.ct_words.specs.Code.{CodeValue}
use Rattle.ct_files.specs.Document.{value_of}
use Rattle.ct_files.proofs.Documents.{document_read_of-right}
use Rattle.ct_piece.specs.Piece.{PieceValue, has_id}
use Rattle.ct_piece.specs.Codes.{codes_of}
use Rattle.ct_piece.specs.Submission.{piece_of, submitted}
use Rattle.ct_piece.specs.Supports.{supports_of}
use Rattle.ct_piece.specs.Inside.Kept.{kept_codes, AreKept}
use Rattle.ct_piece.specs.declared.limits.TheConstants.{MAX_PIECES, MAX_STORED}
use Rattle.ct_pieces.proofs.Putting.{refused-submission, is-put}
use Rattle.ct_pieces.proofs.pieces.Pieces.put_read.Goals as goal

pub accept-requires-clause-standing : goal.accept-requires-clause-standing
accept-requires-clause-standing c = c.self.invariant.0.made

pub accept-requires-clause-kept : goal.accept-requires-clause-kept
accept-requires-clause-kept c = c.self.invariant.2

pub accept-requires-clause-sound : goal.accept-requires-clause-sound
accept-requires-clause-sound c = (document_read_of-right c.args.document (value_of c.args.stated) c.requires.read).0

pub accept-requires-clause-stored : goal.accept-requires-clause-stored
accept-requires-clause-stored c = subst (λ (s : ℕ). s ≤ MAX_STORED) (sym c.self.invariant.1) c.self.invariant.0.small

pub invariant_of-self : goal.invariant_of-self
invariant_of-self c = rw c.accept.ensures.pieces (c.self.invariant.0, c.self.invariant.1, c.accept.ensures.codes)

pub returns-in_err-checked-clause-fault : goal.returns-in_err-checked-clause-fault
returns-in_err-checked-clause-fault c =
    let items = c.self.inside.pieces.items in
    let stated = value_of c.args.stated in
    let free = subst (λ (ps : List PieceValue). has_id c.args.id ps ≡ false) (sym c.self.view_is) c.requires.free in
    let room = subst (λ (ps : List PieceValue). length ps < MAX_PIECES) (sym c.self.view_is) c.requires.room in
    let p = err_from_is_err_and c.from_residual.result c.from_residual.ensures.1 in
    rw (p.1, p.2)
    (λ other.
    let refused = rw c.self.invariant.1 at (c.in_err-checked.ensures.fault other) in
    subst (λ (ps : List PieceValue). submitted ps c.args.id c.args.document ≡ Err c.in_err-checked.field-0.0) c.self.view_is
    (refused-submission items c.args.id c.args.document stated c.in_err-checked.field-0.0 c.requires.read free room refused))

pub new-piece-requires-clause-sound : goal.new-piece-requires-clause-sound
new-piece-requires-clause-sound c = (document_read_of-right c.args.document (value_of c.args.stated) c.requires.read).0

pub new-piece-requires-clause-few : goal.new-piece-requires-clause-few
new-piece-requires-clause-few c = (document_read_of-right c.args.document (value_of c.args.stated) c.requires.read).1.few

pub new-piece-requires-clause-each : goal.new-piece-requires-clause-each
new-piece-requires-clause-each c = (document_read_of-right c.args.document (value_of c.args.stated) c.requires.read).1.each

pub invariant_of-self-2 : goal.invariant_of-self-2
invariant_of-self-2 c =
    let items = c.self.inside.pieces.items in
    let checked = c.in_ok-checked.checked in
    let said = c.in_ok-checked.ensures in
    let pushed = c.push_reserved.ensures.items ∙ ap (λ (ps : List PieceValue). ps ++ c.new-piece.result ∷ []) said.pieces in
    let put = is-put items c.args.self.now c.push_reserved.new.self.items c.args.id c.args.document (value_of c.args.stated) checked c.self.inside.stored c.in_ok-checked.stored
    c.new-piece.result c.kind_of.result.entry c.self.view_is c.self.invariant.0 c.self.invariant.1 c.requires.read c.requires.named c.requires.free c.requires.room said.check said.total
    said.few c.new-piece.ensures c.kind_of.ensures.entry pushed in
    let codes = c.push_reserved-2.ensures.items in
    (put.standing, put.stored, subst (λ (ks : List (Option CodeValue)). AreKept ks (kept_codes c.push_reserved.new.self.items)) (sym codes) (put.kept c.accept.new.kept.items said.codes))

pub returns-clause-accepted : goal.returns-clause-accepted
returns-clause-accepted c =
    let items = c.self.inside.pieces.items in
    let checked = c.in_ok-checked.checked in
    let said = c.in_ok-checked.ensures in
    let pushed = c.push_reserved.ensures.items ∙ ap (λ (ps : List PieceValue). ps ++ c.new-piece.result ∷ []) said.pieces in
    let put = is-put items c.args.self.now c.push_reserved.new.self.items c.args.id c.args.document (value_of c.args.stated) checked c.self.inside.stored c.in_ok-checked.stored
    c.new-piece.result c.kind_of.result.entry c.self.view_is c.self.invariant.0 c.self.invariant.1 c.requires.read c.requires.named c.requires.free c.requires.room said.check said.total
    said.few c.new-piece.ensures c.kind_of.ensures.entry pushed in
    let p = piece_of (codes_of items) c.args.id c.args.document (value_of c.args.stated) in
    record {
      piece = p;
      made = subst (λ (ps : List PieceValue). submitted ps c.args.id c.args.document ≡ Ok p) c.self.view_is put.made;
      pieces = put.pieces ∙ ap (λ (ps : List PieceValue). ps ++ p ∷ []) c.self.view_is;
      answer = said.check.size;
    }

pub returns-clause-supports : goal.returns-clause-supports
returns-clause-supports c =
    let items = c.self.inside.pieces.items in
    let checked = c.in_ok-checked.checked in
    let said = c.in_ok-checked.ensures in
    let pushed = c.push_reserved.ensures.items ∙ ap (λ (ps : List PieceValue). ps ++ c.new-piece.result ∷ []) said.pieces in
    let put = is-put items c.args.self.now c.push_reserved.new.self.items c.args.id c.args.document (value_of c.args.stated) checked c.self.inside.stored c.in_ok-checked.stored
    c.new-piece.result c.kind_of.result.entry c.self.view_is c.self.invariant.0 c.self.invariant.1 c.requires.read c.requires.named c.requires.free c.requires.room said.check said.total
    said.few c.new-piece.ensures c.kind_of.ensures.entry pushed in
    put.supports ∙ ap (λ (ps : List PieceValue). supports_of ps ++ checked.support ∷ []) c.self.view_is

pub returns-clause-standing : goal.returns-clause-standing
returns-clause-standing c =
    let items = c.self.inside.pieces.items in
    let checked = c.in_ok-checked.checked in
    let said = c.in_ok-checked.ensures in
    let pushed = c.push_reserved.ensures.items ∙ ap (λ (ps : List PieceValue). ps ++ c.new-piece.result ∷ []) said.pieces in
    let put = is-put items c.args.self.now c.push_reserved.new.self.items c.args.id c.args.document (value_of c.args.stated) checked c.self.inside.stored c.in_ok-checked.stored
    c.new-piece.result c.kind_of.result.entry c.self.view_is c.self.invariant.0 c.self.invariant.1 c.requires.read c.requires.named c.requires.free c.requires.room said.check said.total
    said.few c.new-piece.ensures c.kind_of.ensures.entry pushed in
    put.standing

pub push_reserved-requires : goal.push_reserved-requires
push_reserved-requires c = c.in_ok-checked.ensures.piece_room

pub push_reserved-requires-2 : goal.push_reserved-requires-2
push_reserved-requires-2 c = c.in_ok-checked.ensures.code_room

pub returns-in_err-checked-clause-unchanged : goal.returns-in_err-checked-clause-unchanged
returns-in_err-checked-clause-unchanged c =
    let p = err_from_is_err_and c.from_residual.result c.from_residual.ensures.1 in
    rw p.1 (c.accept.ensures.pieces ∙ c.self.view_is)
