-- What holds of the pieces that stand.
use Rattle.std.specs.Prelude.{◌≡◌, ◌≢◌, ◌≤◌, List, [], ◌∷◌, ◌++◌, length, All, AllPairs, Ok, IfSome, IsTrue}
use Rattle.ct_words.specs.Code.{IsTrueLower}
use Rattle.ct_names.specs.Id.{is_id}
use Rattle.ct_files.specs.Document.{document_without_limit}
use Rattle.ct_kind.specs.Named.{NamedCode}
use Rattle.ct_files.specs.ByKind.{has_code}
use Rattle.ct_piece.specs.Piece.{PieceValue, stored_words}
use Rattle.ct_piece.specs.Codes.{named_code}
use Rattle.ct_piece.specs.Submission.{piece_from}
use Rattle.ct_piece.specs.declared.limits.TheConstants.{MAX_PIECES, MAX_STORED}

-- a piece is the one that its document, however long it is, makes under its id over these codes
abbrev pub IsMade : List NamedCode → PieceValue → Type 0
IsMade known p = piece_from known p.id p.document (document_without_limit p.document) ≡ Ok p

-- each of the pieces is made by its document over the known codes and those of the pieces before it
abbrev pub AreMade : List NamedCode → List PieceValue → Type 0
AreMade known [] = Unit {0}
AreMade known (p ∷ ps) = IsMade known p × AreMade (known ++ named_code known p ∷ []) ps

-- the size of a piece whose kind has a code is that of some code of its entry
abbrev pub HasTrueSize : PieceValue → Type 0
HasTrueSize p = IsTrue (has_code p.evidence) → IfSome p.size (IsTrueLower p.entry)

-- the pieces of a ledger: each is made by its document over those before it, their ids are ids and different, and they and their words are not too
-- many
pub record AreStanding (pieces : List PieceValue) : Type 0 where
  pub made : AreMade [] pieces
  pub named : All (λ p. IsTrue (is_id p.id)) pieces
  pub different : AllPairs (λ p q. p.id ≢ q.id) pieces
  pub few : length pieces ≤ MAX_PIECES
  pub small : stored_words pieces ≤ MAX_STORED
