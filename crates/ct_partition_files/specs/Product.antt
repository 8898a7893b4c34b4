-- The documents of kind product: their fields, and what is written for a product.
use Rattle.std.specs.Prelude.{ℕ, List, [], ◌∷◌, Option, Some, Ok}
use Rattle.toml.specs.Data.{Data}
use Rattle.ct_words.specs.declared.entry.Entry.{Entry}
use Rattle.ct_fields.specs.Schema.{Schema, states, needs}
use Rattle.ct_fields.specs.EntrySchema.{any_entry}
use Rattle.ct_fields.specs.WrittenSchema.{with_entry}
use Rattle.ct_fields.specs.declared.field.FieldName.{FieldName}
use Rattle.ct_fields.specs.declared.field.FieldName.TheVariants as name
use Rattle.ct_kind.specs.declared.evidence.Evidence.{Evidence}
use Rattle.ct_kind.specs.declared.evidence.Evidence.TheVariants.{Product}
use Rattle.ct_partition_files.specs.Pairs.{id_pairs, pairs_form}

-- a document of kind product: an entry and pairs of ids
abbrev pub product_schema : Schema Evidence
product_schema = any_entry (λ e. needs (pairs_form e.w) (λ pairs. states (Ok (Product e pairs))))

-- what is written for a product
abbrev pub product_fields : Entry → List (List ℕ × List ℕ) → List (FieldName × Option Data)
product_fields e pairs = with_entry e ((name.Pairs, Some (id_pairs pairs)) ∷ [])
