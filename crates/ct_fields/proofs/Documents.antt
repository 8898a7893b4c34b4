-- What the reading of the bytes as TOML says of the table of a document.
use Rattle.std.proofs.Common.{◌≡◌, ℕ, List, Some, None, refl, inl, inr}
use Rattle.std.specs.Prelude.{IsUtf8}
use Rattle.std.specs.Str.{is_utf8}
use Rattle.std.proofs.lemmas.Bool.{cases_Bool}
use Rattle.std.proofs.lemmas.Str.{IsUtf8-from_is_utf8, is_utf8-from_IsUtf8}
use Rattle.toml.specs.Data.{Members, table}
use Rattle.toml.specs.Parse.{parse_document}
use Rattle.ct_fields.specs.Document.{table_of}

-- a table that is parsed from UTF-8 is the table of the bytes
pub table_of-parsed : (bytes : List ℕ) (ms : Members) → IsUtf8 bytes → parse_document bytes ≡ Some ms → table_of bytes ≡ Some (table ms)
unfolding table_of
table_of-parsed bytes ms utf8 parsed = rw (is_utf8-from_IsUtf8 bytes utf8, parsed) refl

-- bytes that don't parse, if they are UTF-8, have no table
pub table_of-refused : (bytes : List ℕ) → (IsUtf8 bytes → parse_document bytes ≡ None) → table_of bytes ≡ None
unfolding table_of
table_of-refused bytes refused =
    elim (cases_Bool (is_utf8 bytes)) [
      | inl is_text ↦ rw (is_text, refused (IsUtf8-from_is_utf8 bytes is_text)) refl
      | inr is_none ↦ rw is_none refl
    ]
