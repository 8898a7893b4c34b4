-- The pieces of evidence that stand.
use Rattle.std.specs.Prelude.{ℕ, Bool, List, find, position, sum_by, Option}
use Rattle.std.specs.List.{list_any}
use Rattle.std.specs.Str.{bytes_eq}
use Rattle.ct_words.specs.declared.entry.Entry.{Entry}
use Rattle.ct_kind.specs.declared.evidence.Evidence.{Evidence}
use Rattle.ct_kind.specs.KindParts.{stored_for}
use Rattle.ct_files.specs.ByKind.{kind_of, names}

-- a piece: its id, its document, the evidence that the document states and what it cites, the entry that it is about, and its size, where it has
-- one: the number of words of its code, or of the classes of a partition
pub record PieceValue : Type 0 where
  pub id : List ℕ
  pub document : List ℕ
  pub evidence : Evidence
  pub cites : List (List ℕ)
  pub entry : Entry
  pub size : Option ℕ

-- whether a piece has the id
abbrev pub has_id : List ℕ → List PieceValue → Bool
has_id id pieces = list_any (λ p. bytes_eq p.id id) pieces

-- the place of the first piece with the id, where there is one
abbrev pub place_of_id : List ℕ → List PieceValue → Option ℕ
place_of_id id pieces = position (λ p. bytes_eq p.id id) pieces

-- how many words a piece stores
abbrev pub stored_by : PieceValue → ℕ
stored_by p = stored_for (kind_of p.evidence) p.size

-- how many words the pieces store
abbrev pub stored_words : List PieceValue → ℕ
stored_words pieces = sum_by stored_by pieces

-- the first piece that names the id as a part
abbrev pub first_user : List ℕ → List PieceValue → Option PieceValue
first_user id pieces = find (λ p. names p.evidence id) pieces
