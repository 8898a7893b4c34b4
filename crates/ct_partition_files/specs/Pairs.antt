-- Pairs of ids in documents.
use Rattle.std.specs.Prelude.{ℕ, suc, Bool, nat_le, ◌==◌, ◌&&◌, if◌then◌else◌, IsTrue, List, length, Option, Some, None}
use Rattle.std.specs.List.{list_all}
use Rattle.std.specs.Option.{option_and_then}
use Rattle.toml.specs.Data.{Data, string, array}
use Rattle.ct_names.specs.Id.{is_id}
use Rattle.ct_words.specs.declared.limits.TheConstants.{MAX_N}
use Rattle.ct_fields.specs.Forms.{pair_in, pair_data, all_of, list_data}
use Rattle.ct_fields.specs.Ids.{id_in}
use Rattle.ct_fields.specs.Schema.{Form}
use Rattle.ct_fields.specs.declared.field.FieldName.TheVariants as name

-- both are ids
abbrev pub AreIds : List ℕ × List ℕ → Type 0
AreIds p = IsTrue (is_id p.0) × IsTrue (is_id p.1)

-- whether a product of the weight may have so many pairs: exactly one if it has none, else 1 to MAX_N + 1, one for each weight
-- that a word of length MAX_N may have
abbrev pub is_pair_count : Option ℕ → ℕ → Bool
is_pair_count None count = count == 1
is_pair_count (Some w) count = nat_le 1 count && nat_le count (suc MAX_N)

-- the pairs of a list of them, of a product of the weight
abbrev pub pairs_in : Option ℕ → Data → Option (List (List ℕ × List ℕ))
pairs_in w (array ds) = option_and_then (λ pairs. if is_pair_count w (length pairs) then Some pairs else None) (all_of (pair_in id_in id_in) ds)
pairs_in w _ = None

-- the list of pairs of texts
abbrev pub id_pairs : List (List ℕ × List ℕ) → Data
id_pairs = list_data (pair_data string string)

-- the pairs of ids of a product of the weight
abbrev pub pairs_form : Option ℕ → Form (List (List ℕ × List ℕ))
pairs_form w = record {
  name = name.Pairs;
  value = pairs_in w;
  written = id_pairs;
  is_right = λ pairs. is_pair_count w (length pairs) && list_all (λ p. is_id p.0 && is_id p.1) pairs;
}
