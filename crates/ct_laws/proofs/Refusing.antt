-- Why a submission is refused, reason by reason.
use Rattle.std.proofs.Common.{◌≡◌, ◌≢◌, ℕ, ◌+◌, ◌<◌, ◌≤◌, Bool, true, false, cond, not, List, [], ◌∷◌, ◌++◌, length, Option, Some, None, option_map, Result, Ok, Err, refl, sym, ap, ap₂, subst, ◌∙◌, nat_le, leb-true}
use Rattle.std.specs.Prelude.{All, find}
use Rattle.std.proofs.lemmas.Bool.{lt-leb, le-leb, leb-false}
use Rattle.std.proofs.lemmas.List.Elements.{All-nil, All-cons, All-head, All-tail}
use Rattle.ct_words.specs.Pairs.{first_of}
use Rattle.ct_kind.specs.declared.evidence.Evidence.{Evidence}
use Rattle.ct_fields.specs.declared.fault.DocumentFault.{DocumentFault}
use Rattle.ct_files.specs.Document.{DocumentValue, document_read_of}
use Rattle.ct_kind.specs.Named.{is_known, first_missing}
use Rattle.ct_piece.specs.Withdrawal.{without, withdrawn, unless_used}
use Rattle.ct_piece.specs.declared.fault.WithdrawFault.{WithdrawFault}
use Rattle.ct_piece.specs.declared.fault.WithdrawFault.TheVariants as withdraw
use Rattle.ct_files.specs.ByKind.{names, ids_of_parts, own_reason}
use Rattle.ct_piece.specs.Piece.{PieceValue, has_id, stored_by, stored_words, first_user}
use Rattle.ct_piece.specs.Codes.{codes_of}
use Rattle.ct_piece.specs.Submission.{piece_of, piece_from, submitted}
use Rattle.ct_piece.specs.Inside.Making.{made_unless, stored_beside, unless_full}
use Rattle.ct_laws.specs.Refusals.{HasRoom, IsRead, IsFirstMissing, IsOwnReason, IsRefused, IsFirstUser, IsNotWithdrawn}
use Rattle.ct_piece.specs.declared.limits.TheConstants.{MAX_PIECES, MAX_STORED}
use Rattle.ct_kind.specs.declared.fault.SubmitFault.{SubmitFault}
use Rattle.ct_kind.specs.declared.fault.SubmitFault.TheVariants.{Taken, FullPieces, File, NoSuch, WrongPart, Code, Partition, Build, Dual, FullWords, Memory}
use Rattle.ct_files.specs.Evidence.{read_of}
use Rattle.ct_files.proofs.Documents.{document_read_of-right, document_read_of-err}
use Rattle.ct_piece.proofs.CodeLemmas.{known_where_taken}
use Rattle.ct_files.proofs.OwnReasons.{IsOwn, reason-own}
use Rattle.ct_laws.proofs.OwnReasons.{own_checked}
use Rattle.ct_laws.proofs.OwnReasons.{own-told, own-tells, no_own_reason}
use Rattle.ct_piece.proofs.StandingLemmas.{has_id-none}
use Rattle.ct_piece.proofs.Accepting.{not_taken}
use Rattle.ct_laws.proofs.Accepted.{taken, parts_stand, parts_known, stand-known, known-stand}

-- where something is found: it passes the test, and nothing before it does
record IsFound {X : Type 0} (test : X → Bool) (xs : List X) (x : X) : Type 0 where
  before : List X
  after : List X
  split : xs ≡ before ++ x ∷ after
  passed : All (λ (y : X). test y ≡ false) before
  found : test x ≡ true

find-found : {X : Type 0} (test : X → Bool) (xs : List X) (x : X) → find test xs ≡ Some x → IsFound test xs x
find-found test [] x h = absurd cc
find-found {X} test (y ∷ xs) x h = at (test y) refl h (find-found test xs x) where
  at : (b : Bool) → test y ≡ b → cond b (Some y) (find test xs) ≡ Some x → (find test xs ≡ Some x → IsFound test xs x) → IsFound test (y ∷ xs) x
  at true is same later =
      let here : y ≡ x = cc in
      record { before = []; after = xs; split = ap (λ (z : X). z ∷ xs) here; passed = All-nil (λ (z : X). test z ≡ false); found = subst (λ (z : X). test z ≡ true) here is }
  at false is rest later =
      let there = later rest in
      record {
        before = y ∷ there.before;
        after = there.after;
        split = ap (λ (ys : List X). y ∷ ys) there.split;
        passed = All-cons (λ (z : X). test z ≡ false) y there.before is there.passed;
        found = there.found;
      }

find-from : {X : Type 0} (test : X → Bool) (before after : List X) (x : X) → All (λ (y : X). test y ≡ false) before → test x ≡ true → find test (before ++ x ∷ after) ≡ Some x
find-from test [] after x passed found = ap (λ (b : Bool). cond b (Some x) (find test after)) found
find-from {X} test (y ∷ before) after x passed found =
    ap (λ (b : Bool). cond b (Some y) (find test (before ++ x ∷ after))) (All-head (λ (z : X). test z ≡ false) y before passed)
    ∙ find-from test before after x (All-tail (λ (z : X). test z ≡ false) y before passed) found

not-true : (b : Bool) → not b ≡ true → b ≡ false
not-true true h = absurd cc
not-true false h = refl

not-false : (b : Bool) → not b ≡ false → b ≡ true
not-false true h = refl
not-false false h = absurd cc

-- the first missing id, both ways
missing-first : (pieces : List PieceValue) (ids : List (List ℕ)) (id : List ℕ) → first_missing (codes_of pieces) ids ≡ Some id → IsFirstMissing pieces ids id
missing-first pieces ids id h =
    let found = find-found (λ (i : List ℕ). not (is_known i (codes_of pieces))) ids id h in
    let missing = not-true (is_known id (codes_of pieces)) found.found in
    record {
      before = found.before;
      after = found.after;
      split = found.split;
      stand = known-stand pieces found.before (λ i d within. not-false (is_known _ (codes_of pieces)) (found.passed i d within));
      missing = has_id-none id pieces (sym (known_where_taken id [] pieces) ∙ missing);
    }

first-missing : (pieces : List PieceValue) (ids : List (List ℕ)) (id : List ℕ) → IsFirstMissing pieces ids id → first_missing (codes_of pieces) ids ≡ Some id
first-missing pieces ids id h =
    let known = stand-known pieces h.before h.stand in
    let none : is_known id (codes_of pieces) ≡ false = known_where_taken id [] pieces ∙ not_taken id pieces h.missing in
    ap (first_missing (codes_of pieces)) h.split
    ∙ find-from (λ (i : List ℕ). not (is_known i (codes_of pieces))) h.before h.after id (λ i d within. ap not (known i d within)) (ap not none)

-- what a submission comes to where its id is free and there is room
abbrev made_with : List PieceValue → List ℕ → List ℕ → Result DocumentValue DocumentFault → Result PieceValue SubmitFault
made_with pieces id document read = stored_beside (stored_words pieces) (piece_from (codes_of pieces) id document read)

submitted-room : (pieces : List PieceValue) (id document : List ℕ) → HasRoom pieces id → submitted pieces id document ≡ made_with pieces id document (document_read_of document)
unfolding submitted
submitted-room pieces id document h =
    let free = not_taken id pieces h.free in
    let below : nat_le MAX_PIECES (length pieces) ≡ false = lt-leb MAX_PIECES (length pieces) h.room in
    let made = made_with pieces id document (document_read_of document) in
    ap (λ (b : Bool). unless_full b (length pieces) made) free ∙ ap (λ (b : Bool). cond b (Err (FullPieces (length pieces))) made) below

submitted-taken : (pieces : List PieceValue) (id document : List ℕ) → has_id id pieces ≡ true → submitted pieces id document ≡ Err Taken
unfolding submitted
submitted-taken pieces id document h = ap (λ (b : Bool). unless_full b (length pieces) (made_with pieces id document (document_read_of document))) h

submitted-full : (pieces : List PieceValue) (id document : List ℕ) → has_id id pieces ≡ false → MAX_PIECES ≤ length pieces
    → submitted pieces id document ≡ Err (FullPieces (length pieces))
unfolding submitted
submitted-full pieces id document free many =
    let made = made_with pieces id document (document_read_of document) in
    ap (λ (b : Bool). unless_full b (length pieces) made) free ∙ ap (λ (b : Bool). cond b (Err (FullPieces (length pieces))) made) (le-leb MAX_PIECES (length pieces) many)

-- and where its document is read: by its first missing part, or else its kind's own reason, or else its stored words
abbrev judged : List PieceValue → List ℕ → List ℕ → DocumentValue → Option (List ℕ) → Option SubmitFault → Result PieceValue SubmitFault
judged pieces id document stated missing own =
    stored_beside (stored_words pieces) (made_unless (first_of (option_map NoSuch missing) own) (piece_of (codes_of pieces) id document stated))

submitted-read : (pieces : List PieceValue) (id document : List ℕ) (stated : DocumentValue) → IsRead pieces id document stated
    → submitted pieces id document ≡ judged pieces id document stated (first_missing (codes_of pieces) (ids_of_parts stated.evidence)) (own_reason (codes_of pieces) stated.evidence)
submitted-read pieces id document stated h = submitted-room pieces id document h.place ∙ ap (made_with pieces id document) h.read

-- a kind's own reason refuses
own-refused : (pieces : List PieceValue) (id document : List ℕ) (reason : SubmitFault) → IsOwn reason → IsOwnReason pieces id document reason → IsRefused pieces id document reason
own-refused pieces id document (WrongPart part) own h = h
own-refused pieces id document (Code reason) own h = h
own-refused pieces id document (Partition reason) own h = h
own-refused pieces id document (Build reason) own h = h
own-refused pieces id document (Dual reason) own h = h
own-refused pieces id document Taken own h = absurd own
own-refused pieces id document (FullPieces count) own h = absurd own
own-refused pieces id document (File reason) own h = absurd own
own-refused pieces id document (NoSuch part) own h = absurd own
own-refused pieces id document (FullWords total) own h = absurd own
own-refused pieces id document Memory own h = absurd own

same-refused : (pieces : List PieceValue) (id document : List ℕ) (first second : SubmitFault) → ◌≡◌ {A = Result PieceValue SubmitFault} (Err first) (Err second)
    → IsRefused pieces id document first → IsRefused pieces id document second
same-refused pieces id document first second same h = let is : first ≡ second = cc in subst (IsRefused pieces id document) is h

-- the reason of a submission whose document is read
read-refused : (pieces : List PieceValue) (id document : List ℕ) (stated : DocumentValue) (reason : SubmitFault) → IsRead pieces id document stated
    → submitted pieces id document ≡ Err reason → IsRefused pieces id document reason
read-refused pieces id document stated reason read h =
    at (first_missing (codes_of pieces) (ids_of_parts stated.evidence)) (own_reason (codes_of pieces) stated.evidence) refl refl (sym (submitted-read pieces id document stated read) ∙ h)
  where
    evidence : Evidence
    evidence = stated.evidence

    total : ℕ
    total = stored_words pieces + stored_by (piece_of (codes_of pieces) id document stated)

    above : (b : Bool) → nat_le total MAX_STORED ≡ b → first_missing (codes_of pieces) (ids_of_parts evidence) ≡ None → own_reason (codes_of pieces) evidence ≡ None
        → cond b (Ok (piece_of (codes_of pieces) id document stated)) (Err (FullWords total)) ≡ Err reason → IsRefused pieces id document reason
    above true few none own same = absurd cc
    above false many none own same =
        same-refused pieces id document (FullWords total) reason same
        (record { stated = stated; read = read; parts = parts_stand pieces (ids_of_parts evidence) none; checked = own_checked (codes_of pieces) evidence (document_read_of-right document stated read.read).0 own; sum = refl; many = leb-false total MAX_STORED many })

    at : (missing : Option (List ℕ)) (own : Option SubmitFault) → first_missing (codes_of pieces) (ids_of_parts evidence) ≡ missing → own_reason (codes_of pieces) evidence ≡ own
        → judged pieces id document stated missing own ≡ Err reason → IsRefused pieces id document reason
    at (Some part) own is own_is same =
        same-refused pieces id document (NoSuch part) reason same (record { stated = stated; read = read; first = missing-first pieces (ids_of_parts evidence) part is })
    at None (Some first) is own_is same =
        same-refused pieces id document first reason same
        (own-refused pieces id document first (reason-own (codes_of pieces) evidence first own_is)
        (record { stated = stated; read = read; parts = parts_stand pieces (ids_of_parts evidence) is; own = own-told (codes_of pieces) evidence first own_is }))
    at None None is own_is same = above (nat_le total MAX_STORED) refl is own_is same

-- the reason of a submission that has room
room-refused : (pieces : List PieceValue) (id document : List ℕ) (reason : SubmitFault) → HasRoom pieces id → submitted pieces id document ≡ Err reason
    → IsRefused pieces id document reason
room-refused pieces id document reason room h = at (document_read_of document) refl where
  at : (read : Result DocumentValue DocumentFault) → document_read_of document ≡ read → IsRefused pieces id document reason
  at (Ok stated) is = read-refused pieces id document stated reason (record { place = room; read = is }) h
  at (Err fault) is =
      same-refused pieces id document (File fault) reason (sym (submitted-room pieces id document room ∙ ap (made_with pieces id document) is) ∙ h) (room, is)

-- a submission that is refused is refused for its reason
pub refused-for : (pieces : List PieceValue) (id document : List ℕ) (reason : SubmitFault) → submitted pieces id document ≡ Err reason → IsRefused pieces id document reason
refused-for pieces id document reason h = at (has_id id pieces) refl where
  full : (b : Bool) → nat_le MAX_PIECES (length pieces) ≡ b → has_id id pieces ≡ false → IsRefused pieces id document reason
  full true is free =
      let many = leb-true MAX_PIECES (length pieces) is in
      same-refused pieces id document (FullPieces (length pieces)) reason (sym (submitted-full pieces id document free many) ∙ h) (has_id-none id pieces free, many, refl)
  full false is free =
      room-refused pieces id document reason (record { free = has_id-none id pieces free; room = leb-false MAX_PIECES (length pieces) is }) h

  at : (b : Bool) → has_id id pieces ≡ b → IsRefused pieces id document reason
  at true is = same-refused pieces id document Taken reason (sym (submitted-taken pieces id document is) ∙ h) ((taken id pieces).0 is)
  at false is = full (nat_le MAX_PIECES (length pieces)) refl is

-- a kind's own reason, where the parts stand
own-refuses : (pieces : List PieceValue) (id document : List ℕ) (reason : SubmitFault) → IsOwnReason pieces id document reason → submitted pieces id document ≡ Err reason
own-refuses pieces id document reason h =
    let none = parts_known pieces (ids_of_parts h.stated.evidence) h.parts in
    submitted-read pieces id document h.stated h.read ∙ ap₂ (judged pieces id document h.stated) none (own-tells (codes_of pieces) h.stated.evidence reason h.own)

-- and each reason that holds refuses
pub refuses : (pieces : List PieceValue) (id document : List ℕ) (reason : SubmitFault) → IsRefused pieces id document reason → submitted pieces id document ≡ Err reason
refuses pieces id document Taken h = submitted-taken pieces id document ((taken id pieces).1 h)
refuses pieces id document (FullPieces count) h =
    submitted-full pieces id document (not_taken id pieces h.0) h.1 ∙ ap (λ (n : ℕ). Err (FullPieces n)) (sym h.2)
refuses pieces id document (File reason) h = submitted-room pieces id document h.0 ∙ ap (made_with pieces id document) h.1
refuses pieces id document (NoSuch part) h =
    submitted-read pieces id document h.stated h.read
    ∙ ap (λ (missing : Option (List ℕ)). judged pieces id document h.stated missing (own_reason (codes_of pieces) h.stated.evidence)) (first-missing pieces (ids_of_parts h.stated.evidence) part h.first)
refuses pieces id document (WrongPart part) h = own-refuses pieces id document (WrongPart part) h
refuses pieces id document (Code reason) h = own-refuses pieces id document (Code reason) h
refuses pieces id document (Partition reason) h = own-refuses pieces id document (Partition reason) h
refuses pieces id document (Build reason) h = own-refuses pieces id document (Build reason) h
refuses pieces id document (Dual reason) h = own-refuses pieces id document (Dual reason) h
refuses pieces id document (FullWords total) h =
    let none = parts_known pieces (ids_of_parts h.stated.evidence) h.parts in
    let own = no_own_reason (codes_of pieces) h.stated.evidence (document_read_of-right document h.stated h.read.read).0 h.checked in
    let p = piece_of (codes_of pieces) id document h.stated in
    let count = stored_words pieces + stored_by p in
    let above : MAX_STORED < count = subst (λ (n : ℕ). MAX_STORED < n) h.sum h.many in
    submitted-read pieces id document h.stated h.read ∙ ap₂ (judged pieces id document h.stated) none own
    ∙ ap (λ (b : Bool). cond b (Ok p) (Err (FullWords count))) (lt-leb count MAX_STORED above) ∙ ap (λ (n : ℕ). Err (FullWords n)) (sym h.sum)
refuses pieces id document Memory h = absurd h

-- what a withdrawal leaves, by the first user
withdrawn-by : (pieces : List PieceValue) (id : List ℕ) (user : Option PieceValue) → has_id id pieces ≡ true → first_user id pieces ≡ user
    → withdrawn pieces id ≡ unless_used user (without id pieces)
unfolding withdrawn
withdrawn-by pieces id user has is =
    ap (λ (b : Bool). cond b (unless_used (first_user id pieces) (without id pieces)) (Err withdraw.NoSuch)) has
    ∙ ap (λ (u : Option PieceValue). unless_used u (without id pieces)) is

withdrawn-none : (pieces : List PieceValue) (id : List ℕ) → has_id id pieces ≡ false → withdrawn pieces id ≡ Err withdraw.NoSuch
unfolding withdrawn
withdrawn-none pieces id none = ap (λ (b : Bool). cond b (unless_used (first_user id pieces) (without id pieces)) (Err withdraw.NoSuch)) none

same-kept : (pieces : List PieceValue) (id : List ℕ) (first second : WithdrawFault) → ◌≡◌ {A = Result (List PieceValue) WithdrawFault} (Err first) (Err second)
    → IsNotWithdrawn pieces id first → IsNotWithdrawn pieces id second
same-kept pieces id first second same h = let is : first ≡ second = cc in subst (IsNotWithdrawn pieces id) is h

first-used : (pieces : List PieceValue) (id : List ℕ) (p : PieceValue) → first_user id pieces ≡ Some p → IsFirstUser pieces id p.id
first-used pieces id p h =
    let found = find-found (λ (q : PieceValue). names q.evidence id) pieces p h in
    record { before = found.before; piece = p; after = found.after; split = found.split; free = found.passed; used = found.found; own = refl }

-- a withdrawal that is refused is refused for its reason
pub kept-for : (pieces : List PieceValue) (id : List ℕ) (reason : WithdrawFault) → withdrawn pieces id ≡ Err reason → IsNotWithdrawn pieces id reason
kept-for pieces id reason h = at (has_id id pieces) refl where
  used : (user : Option PieceValue) → first_user id pieces ≡ user → has_id id pieces ≡ true → IsNotWithdrawn pieces id reason
  used None is has = let never = sym (withdrawn-by pieces id None has is) ∙ h in absurd cc
  used (Some p) is has =
      same-kept pieces id (withdraw.InUse p.id) reason (sym (withdrawn-by pieces id (Some p) has is) ∙ h) ((taken id pieces).0 has, first-used pieces id p is)

  at : (b : Bool) → has_id id pieces ≡ b → IsNotWithdrawn pieces id reason
  at true has = used (first_user id pieces) refl has
  at false none = same-kept pieces id withdraw.NoSuch reason (sym (withdrawn-none pieces id none) ∙ h) (has_id-none id pieces none)

-- and each reason that holds refuses
pub keeps : (pieces : List PieceValue) (id : List ℕ) (reason : WithdrawFault) → IsNotWithdrawn pieces id reason → withdrawn pieces id ≡ Err reason
keeps pieces id withdraw.NoSuch h = withdrawn-none pieces id (not_taken id pieces h)
keeps pieces id (withdraw.InUse user) h =
    let u = h.1 in
    let is = ap (first_user id) u.split ∙ find-from (λ (q : PieceValue). names q.evidence id) u.before u.after u.piece u.free u.used in
    withdrawn-by pieces id (Some u.piece) ((taken id pieces).1 h.0) is ∙ ap (λ (i : List ℕ). Err (withdraw.InUse i)) u.own
keeps pieces id withdraw.Memory h = absurd h

-- no reason against a document that is read is a fault of its own
pub submitted-unread : (pieces : List PieceValue) (id document : List ℕ) (evidence : Evidence) (reason : DocumentFault) → read_of document ≡ Ok evidence
    → submitted pieces id document ≢ Err (File reason)
submitted-unread pieces id document evidence reason read refused =
    let unread = (refused-for pieces id document (File reason) refused).1 in
    absurd (let both = sym read ∙ document_read_of-err document reason unread in cc)
