-- The table that bytes write, and what it has at its keys.
use Rattle.std.specs.Prelude.{◌≡◌, ℕ, pos, ◌^◌, ◌<◌, ◌≤◌, List, ◌∷◌, length, map, Some, Contains, slice_get, IsUtf8, codes}
use Rattle.toml.specs.Data.{Data, string, integer, array, table, Members, get}
use Rattle.toml.specs.Parse.{parse_document}
use Rattle.toml.specs.View.{items_of}
use Rattle.ct_words.specs.Text.{word_text}
use Rattle.ct_fields.specs.Field.{field_text}
use Rattle.ct_fields.specs.declared.field.FieldName.{FieldName}
use Rattle.ct_fields.specs.declared.document.TheConstants.{MAX_DOCUMENT}

-- the bytes write the table by the grammar of TOML 1.1, in UTF-8, and are not too many
pub record IsDocument (bytes : List ℕ) (document : Data) : Type 0 where
  pub short : length bytes ≤ MAX_DOCUMENT
  pub utf8 : IsUtf8 bytes
  pub written : (members : Members) × (parse_document bytes ≡ Some members) × (document ≡ table members)

-- the table says that it is of the kind
abbrev pub IsOfKind : List ℕ → Data → Type 0
IsOfKind kind document = get (codes "kind") document ≡ Some (string kind)

-- the field is the number k, from low to high
abbrev pub HasNumber : FieldName → ℕ → ℕ → Data → ℕ → Type 0
HasNumber name low high document k = (get (field_text name) document ≡ Some (integer (pos k))) × (low ≤ k) × (k ≤ high)

-- the field is the text
abbrev pub HasText : FieldName → Data → List ℕ → Type 0
HasText name document text = get (field_text name) document ≡ Some (string text)

-- the field is the list of the texts
abbrev pub HasTexts : FieldName → Data → List (List ℕ) → Type 0
HasTexts name document texts = get (field_text name) document ≡ Some (array (items_of (map string texts)))

-- the key is `kind` or that of one of the fields
abbrev pub IsNamed : List FieldName → List ℕ → Type 0
IsNamed names key = Contains (codes "kind" ∷ map field_text names) key

-- the text is that of a word of length n
abbrev pub IsWordText : ℕ → List ℕ → Type 0
IsWordText n text = (x : ℕ) × (x < 2 ^ n) × (text ≡ word_text n x)

-- the text at this place is the first that isn't that of a word of length n
pub record IsFirstWrong (n : ℕ) (texts : List (List ℕ)) (i : ℕ) : Type 0 where
  pub wrong : (text : List ℕ) × (slice_get texts i ≡ Some text) × ¬ (IsWordText n text)
  pub before : (j : ℕ) (text : List ℕ) → j < i → slice_get texts j ≡ Some text → IsWordText n text
