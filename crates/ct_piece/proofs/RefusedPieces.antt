-- A refused submission or withdrawal names pieces by ids.
use Rattle.std.proofs.Common.{◌≡◌, ℕ, Bool, true, false, cond, nat_le, List, [], ◌∷◌, Option, Some, None, Result, Ok, Err, IfErr, IfSome, IsTrue, refl, sym, subst}
use Rattle.std.specs.Prelude.{All, find, length, codes}
use Rattle.std.proofs.lemmas.List.Elements.{All-head, All-tail}
use Rattle.ct_names.specs.Id.{is_id}
use Rattle.ct_fields.specs.declared.fault.DocumentFault.{DocumentFault}
use Rattle.ct_kind.specs.Named.{NamedCode}
use Rattle.ct_kind.specs.declared.fault.SubmitFault.{SubmitFault}
use Rattle.ct_kind.specs.declared.fault.SubmitFault.TheVariants as fault
use Rattle.ct_files.specs.ByKind.{names, evidence_reason}
use Rattle.ct_files.specs.Document.{DocumentValue, document_read_of}
use Rattle.ct_files.proofs.RefusalTexts.{NamesById}
use Rattle.ct_files.proofs.PartIds.{read-ids, reason-named}
use Rattle.ct_files.proofs.UnbrokenTexts.{IsUnbroken, nothing, literal, joined, and_number, of_id}
use Rattle.ct_piece.specs.Piece.{PieceValue, has_id, stored_words, first_user}
use Rattle.ct_piece.specs.Codes.{codes_of}
use Rattle.ct_piece.specs.Standing.{AreStanding}
use Rattle.ct_piece.specs.Submission.{piece_of, piece_from, submitted}
use Rattle.ct_piece.specs.Inside.Making.{made_unless, if_stored, stored_beside, unless_full}
use Rattle.ct_piece.specs.Text.{withdraw_fault_text, size_text}
use Rattle.ct_piece.specs.Withdrawal.{without, withdrawn, withdrawn_all, without_all, taken_along, unless_used}
use Rattle.ct_piece.specs.declared.limits.TheConstants.{MAX_PIECES, MAX_STORED}
use Rattle.ct_piece.specs.declared.fault.WithdrawFault.{WithdrawFault}
use Rattle.ct_piece.specs.declared.fault.WithdrawFault.TheVariants as withdraw

-- ---- submissions

unless_named : (reason : Option SubmitFault) (p : PieceValue) → IfSome reason NamesById → IfErr (made_unless reason p) NamesById
unless_named None p h = tt
unless_named (Some f) p h = h

from_named : (known : List NamedCode) (id document : List ℕ) (read : Result DocumentValue DocumentFault) → document_read_of document ≡ read
    → IfErr (piece_from known id document read) NamesById
from_named known id document (Ok stated) is =
    unless_named (evidence_reason known stated.evidence) (piece_of known id document stated) (reason-named known stated.evidence (read-ids document stated is))
from_named known id document (Err reason) is = tt

if_stored_named : (total : ℕ) (p : PieceValue) → IfErr (if_stored total p) NamesById
if_stored_named total p = at (nat_le total MAX_STORED) where
  at : (b : Bool) → IfErr (cond b (Ok p) (Err (fault.FullWords total))) NamesById
  at true = tt
  at false = tt

beside_named : (stored : ℕ) (made : Result PieceValue SubmitFault) → IfErr made NamesById → IfErr (stored_beside stored made) NamesById
beside_named stored (Ok p) h = if_stored_named _ p
beside_named stored (Err f) h = h

full_named : (taken : Bool) (count : ℕ) (made : Result PieceValue SubmitFault) → IfErr made NamesById → IfErr (unless_full taken count made) NamesById
full_named true count made h = tt
full_named false count made h = at (nat_le MAX_PIECES count) where
  at : (b : Bool) → IfErr (cond b (Err (fault.FullPieces count)) made) NamesById
  at true = tt
  at false = h

-- why a submission is refused names a piece by an id, if it names one
pub submitted-named : (pieces : List PieceValue) (id document : List ℕ) → IfErr (submitted pieces id document) NamesById
unfolding submitted
submitted-named pieces id document =
    full_named (has_id id pieces) (length pieces) _ (beside_named (stored_words pieces) _ (from_named (codes_of pieces) id document (document_read_of document) refl))

-- ---- withdrawals

-- a user that the fault names is named by an id
abbrev pub NamesUser : WithdrawFault → Type 0
NamesUser (withdraw.InUse user) = IsTrue (is_id user)
NamesUser f = Unit {0}

found_user : (test : PieceValue → Bool) (pieces : List PieceValue) → All (λ p. IsTrue (is_id p.id)) pieces → IfSome (find test pieces) (λ p. IsTrue (is_id p.id))
found_user test [] h = tt
found_user test (p ∷ ps) h =
    at (test p) (find test ps) (All-head (λ q. IsTrue (is_id q.id)) p ps h) (found_user test ps (All-tail (λ q. IsTrue (is_id q.id)) p ps h))
  where
    at : (b : Bool) (later : Option PieceValue) → IsTrue (is_id p.id) → IfSome later (λ q. IsTrue (is_id q.id)) → IfSome (cond b (Some p) later) (λ q. IsTrue (is_id q.id))
    at true later own rest = own
    at false later own rest = rest

used_named : (user : Option PieceValue) (rest : List PieceValue) → IfSome user (λ p. IsTrue (is_id p.id)) → IfErr (unless_used user rest) NamesUser
used_named None rest h = tt
used_named (Some user) rest h = h

pub withdrawn-named : (pieces : List PieceValue) (id : List ℕ) → AreStanding pieces → IfErr (withdrawn pieces id) NamesUser
unfolding withdrawn
withdrawn-named pieces id stand = at (has_id id pieces) where
  at : (b : Bool) → IfErr (cond b (unless_used (first_user id pieces) (without id pieces)) (Err withdraw.NoSuch)) NamesUser
  at true = used_named (first_user id pieces) (without id pieces) (found_user (λ p. names p.evidence id) pieces stand.named)
  at false = tt

pub withdrawn_all-named : (pieces : List PieceValue) (id : List ℕ) → IfErr (withdrawn_all pieces id) NamesUser
unfolding withdrawn_all
withdrawn_all-named pieces id = at (has_id id pieces) where
  at : (b : Bool) → IfErr (cond b (Ok (without_all (taken_along pieces id) pieces)) (Err withdraw.NoSuch)) NamesUser
  at true = tt
  at false = tt

-- ---- their texts

pub of_withdraw_fault : (id : List ℕ) (f : WithdrawFault) → IsTrue (is_id id) → NamesUser f → IsUnbroken (withdraw_fault_text id f)
of_withdraw_fault id withdraw.NoSuch named h = joined (literal (codes "nosuch ") refl) (of_id id named)
of_withdraw_fault id (withdraw.InUse user) named h = joined (literal (codes "inuse ") refl) (of_id user h)
of_withdraw_fault id withdraw.Memory named h = nothing

pub of_size : (size : Option ℕ) → IsUnbroken (size_text size)
of_size None = nothing
of_size (Some size) = and_number size (literal (codes " size") refl)
