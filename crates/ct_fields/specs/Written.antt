-- What is written at the keys of a table.
use Rattle.std.specs.Prelude.{ℕ, ◌+◌, ◌*◌, pos, List, [], ◌∷◌, length, map, sum_by, codes}
use Rattle.std.specs.Ordering.{nat_cmp, match_ordering}
use Rattle.std.specs.Cmp.Lexicographic.{slice_cmp}
use Rattle.toml.specs.Data.{Data, string, integer, array, Members, no_members, member}
use Rattle.toml.specs.View.{items_of}
use Rattle.ct_words.specs.Text.{word_text}
use Rattle.ct_fields.specs.Field.{field_text}
use Rattle.ct_fields.specs.Forms.{list_data}
use Rattle.ct_fields.specs.declared.field.FieldName.{FieldName}
use Rattle.ct_fields.specs.declared.field.FieldName.TheVariants as name

-- the list of the texts of words of length n
abbrev pub word_texts : ℕ → List ℕ → Data
word_texts n words = array (items_of (map (λ x. string (word_text n x)) words))

-- the members whose keys ascend, with the value at the key
abbrev pub set_member : List ℕ → Data → Members → Members
set_member k d no_members = member k d no_members
set_member k d (member l e ms) = match_ordering (slice_cmp nat_cmp k l) (member k d (member l e ms)) (member l d ms) (member l e (set_member k d ms))

-- the same at the key of a field
abbrev pub put : FieldName → Data → Members → Members
put name = set_member (field_text name)

-- the table of a kind with a length and a distance
abbrev pub entry_table : List ℕ → ℕ → ℕ → Members
entry_table kind n d = put name.D (integer (pos d)) (put name.N (integer (pos n)) (member (codes "kind") (string kind) no_members))

-- the cites with their format, where there are any
abbrev pub put_cites : List (List ℕ) → Members → Members
put_cites [] ms = ms
put_cites (cite ∷ cites) ms = put name.Cites (list_data string (cite ∷ cites)) (put name.Format (integer (pos 2)) ms)

-- so many bytes at most the cites add to the text of a table: each takes at most two for one of its own, and 9 beside
abbrev pub cites_bytes : List (List ℕ) → ℕ
cites_bytes [] = 0
cites_bytes cites = 41 + sum_by (λ cite. 9 + 2 * length cite) cites
