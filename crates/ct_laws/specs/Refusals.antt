-- Why a submission or a withdrawal over the pieces that stand is refused, reason by reason: each holds where those before it don't.
use Rattle.std.specs.Prelude.{◌≡◌, ◌≢◌, ◌<◌, ◌≤◌, ℕ, true, false, ◌+◌, List, ◌∷◌, ◌++◌, length, map, All, Contains, Ok, Err}
use Rattle.ct_files.specs.Document.{DocumentValue, document_read_of}
use Rattle.ct_files.specs.ByKind.{names, ids_of_parts, IsChecked}
use Rattle.ct_laws.specs.OwnRefusal.{IsOwnRefusal}
use Rattle.ct_piece.specs.Piece.{PieceValue, stored_by, stored_words}
use Rattle.ct_piece.specs.Codes.{codes_of}
use Rattle.ct_piece.specs.Submission.{piece_of}
use Rattle.ct_piece.specs.declared.limits.TheConstants.{MAX_PIECES, MAX_STORED}
use Rattle.ct_piece.specs.declared.fault.WithdrawFault.{WithdrawFault}
use Rattle.ct_piece.specs.declared.fault.WithdrawFault.TheVariants as withdraw
use Rattle.ct_kind.specs.declared.fault.SubmitFault.{SubmitFault}
use Rattle.ct_kind.specs.declared.fault.SubmitFault.TheVariants.{Taken, FullPieces, File, NoSuch, WrongPart, Code, Partition, Build, Dual, FullWords, Memory}

-- the id is one of the pieces'
abbrev pub IsTaken : List PieceValue → List ℕ → Type 0
IsTaken pieces id = Contains (map (λ p. p.id) pieces) id

-- the id is free, and there is room for one more piece
pub record HasRoom (pieces : List PieceValue) (id : List ℕ) : Type 0 where
  pub free : All (λ q. q.id ≢ id) pieces
  pub room : length pieces < MAX_PIECES

-- besides, the document is read, and states this
pub record IsRead (pieces : List PieceValue) (id document : List ℕ) (stated : DocumentValue) : Type 0 where
  pub place : HasRoom pieces id
  pub read : document_read_of document ≡ Ok stated

-- the first of the ids that is none of the pieces'
pub record IsFirstMissing (pieces : List PieceValue) (ids : List (List ℕ)) (id : List ℕ) : Type 0 where
  pub before : List (List ℕ)
  pub after : List (List ℕ)
  pub split : ids ≡ before ++ id ∷ after
  pub stand : All (IsTaken pieces) before
  pub missing : All (λ q. q.id ≢ id) pieces

-- the document is read as evidence whose parts stand, and its kind has this reason against it, by its plain condition
pub record IsOwnReason (pieces : List PieceValue) (id document : List ℕ) (reason : SubmitFault) : Type 0 where
  pub stated : DocumentValue
  pub read : IsRead pieces id document stated
  pub parts : All (IsTaken pieces) (ids_of_parts stated.evidence)
  pub own : IsOwnRefusal (codes_of pieces) stated.evidence reason

-- the document names this part first of those that don't stand
pub record NamesMissing (pieces : List PieceValue) (id document part : List ℕ) : Type 0 where
  pub stated : DocumentValue
  pub read : IsRead pieces id document stated
  pub first : IsFirstMissing pieces (ids_of_parts stated.evidence) part

-- the evidence is as its kind asks, but so many words would be stored with it, which are too many
pub record IsAboveStored (pieces : List PieceValue) (id document : List ℕ) (total : ℕ) : Type 0 where
  pub stated : DocumentValue
  pub read : IsRead pieces id document stated
  pub parts : All (IsTaken pieces) (ids_of_parts stated.evidence)
  pub checked : IsChecked (codes_of pieces) stated.evidence
  pub sum : total ≡ stored_words pieces + stored_by (piece_of (codes_of pieces) id document stated)
  pub many : MAX_STORED < total

-- the submission is refused for this reason: in order, its id stands; a thousand pieces do; the document's own fault; a part that doesn't stand; a
-- part, words, classes, a step, a product or a dual that the kind's own check refuses; or too many stored words
abbrev pub IsRefused : List PieceValue → List ℕ → List ℕ → SubmitFault → Type 0
IsRefused pieces id document Taken = IsTaken pieces id
IsRefused pieces id document (FullPieces count) = All (λ q. q.id ≢ id) pieces × (MAX_PIECES ≤ length pieces) × (count ≡ length pieces)
IsRefused pieces id document (File reason) = HasRoom pieces id × (document_read_of document ≡ Err reason)
IsRefused pieces id document (NoSuch part) = NamesMissing pieces id document part
IsRefused pieces id document (WrongPart part) = IsOwnReason pieces id document (WrongPart part)
IsRefused pieces id document (Code reason) = IsOwnReason pieces id document (Code reason)
IsRefused pieces id document (Partition reason) = IsOwnReason pieces id document (Partition reason)
IsRefused pieces id document (Build reason) = IsOwnReason pieces id document (Build reason)
IsRefused pieces id document (Dual reason) = IsOwnReason pieces id document (Dual reason)
IsRefused pieces id document (FullWords total) = IsAboveStored pieces id document total
IsRefused pieces id document Memory = ⊥

-- the first of the pieces that names the id as a part has this id
pub record IsFirstUser (pieces : List PieceValue) (id user : List ℕ) : Type 0 where
  pub before : List PieceValue
  pub piece : PieceValue
  pub after : List PieceValue
  pub split : pieces ≡ before ++ piece ∷ after
  pub free : All (λ q. names q.evidence id ≡ false) before
  pub used : names piece.evidence id ≡ true
  pub own : piece.id ≡ user

-- a withdrawal of the id is refused for this reason: no piece has it, or another piece names it
abbrev pub IsNotWithdrawn : List PieceValue → List ℕ → WithdrawFault → Type 0
IsNotWithdrawn pieces id withdraw.NoSuch = All (λ q. q.id ≢ id) pieces
IsNotWithdrawn pieces id (withdraw.InUse user) = IsTaken pieces id × IsFirstUser pieces id user
IsNotWithdrawn pieces id withdraw.Memory = ⊥
