-- What the key `cites` of a document holds: where its evidence comes from.
use Rattle.std.specs.Prelude.{ℕ, suc, ◌≤◌, nat_le, if◌then◌else◌, List, [], length, Option, Some, None, Result, Ok, ok_or, All, IsTrue}
use Rattle.std.specs.Option.{option_and_then}
use Rattle.toml.specs.Data.{Data, array, Items, no_items, item, get, as_str}
use Rattle.ct_names.specs.Cite.{is_cite, cite_of}
use Rattle.ct_fields.specs.Field.{field_text}
use Rattle.ct_fields.specs.Forms.{all_of}
use Rattle.ct_fields.specs.Format.{may_cite}
use Rattle.ct_fields.specs.declared.cites.TheConstants.{MAX_CITES}
use Rattle.ct_fields.specs.declared.field.FieldName.TheVariants.{Cites}
use Rattle.ct_fields.specs.declared.fault.DocumentFault.{DocumentFault}
use Rattle.ct_fields.specs.declared.fault.DocumentFault.TheVariants.{Field}

-- the texts are what a document may cite: at most MAX_CITES, each a cite
pub record IsCites (cites : List (List ℕ)) : Type 0 where
  pub few : length cites ≤ MAX_CITES
  pub each : All (λ cite. IsTrue (is_cite cite)) cites

-- the cite whose text the value is
abbrev pub cite_in : Data → Option (List ℕ)
cite_in d = option_and_then cite_of (as_str d)

-- how many items there are
abbrev pub items_count : Items → ℕ
items_count no_items = 0
items_count (item d ds) = suc (items_count ds)

-- the cites of a list of at most MAX_CITES
abbrev pub cites_in : Data → Option (List (List ℕ))
cites_in (array ds) = if nat_le (items_count ds) MAX_CITES then all_of cite_in ds else None
cites_in _ = None

-- the cites of what stands at the key `cites`, none where the key is left out
abbrev pub cites_at : Option Data → Result (List (List ℕ)) DocumentFault
cites_at None = Ok []
cites_at (Some d) = ok_or (cites_in d) (Field Cites)

-- the cites of a document, which is of format 2 where it has any; in format 1 the key says nothing
abbrev pub cites_of : Data → Result (List (List ℕ)) DocumentFault
cites_of document = if may_cite document then cites_at (get (field_text Cites) document) else Ok []
