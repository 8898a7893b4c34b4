-- What is written for a document: values at its fields.
use Rattle.std.specs.Prelude.{ℕ, pos, List, ◌∷◌, fold, Option, Some, None, option_map, codes}
use Rattle.toml.specs.Data.{Data, string, integer, Members, member, no_members}
use Rattle.ct_words.specs.declared.entry.Entry.{Entry}
use Rattle.ct_fields.specs.Written.{put}
use Rattle.ct_fields.specs.declared.field.FieldName.{FieldName}
use Rattle.ct_fields.specs.declared.field.FieldName.TheVariants.{N, D, W}

-- the members with the value at the field, if there is one
abbrev pub put_some : FieldName → Option Data → Members → Members
put_some name None ms = ms
put_some name (Some d) ms = put name d ms

-- the table of a kind with these values at its fields
abbrev pub written_table : List ℕ → List (FieldName × Option Data) → Members
written_table kind fields = fold (λ ms f. put_some f.0 f.1 ms) (member (codes "kind") (string kind) no_members) fields

-- the length and the distance of an entry, and the fields after them
abbrev pub with_plain : Entry → List (FieldName × Option Data) → List (FieldName × Option Data)
with_plain e fields = (N, Some (integer (pos e.n))) ∷ (D, Some (integer (pos e.d))) ∷ fields

-- its length, its distance and its weight, if it has one, and the fields after them
abbrev pub with_entry : Entry → List (FieldName × Option Data) → List (FieldName × Option Data)
with_entry e fields = with_plain e ((W, option_map (λ w. integer (pos w)) e.w) ∷ fields)
