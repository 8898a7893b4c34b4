-- The own fields of a document of kind build, each with its form.
use Rattle.std.specs.Prelude.{ℕ, suc, pos, ◌+◌, ◌-◌, Bool, true, nat_le, nat_lt, ◌==◌, ◌&&◌, if◌then◌else◌, List, [], ◌∷◌, length, map, Option, Some, None}
use Rattle.std.specs.List.{list_all}
use Rattle.std.specs.Option.{option_and_then}
use Rattle.toml.specs.Data.{Data, string, integer, array, as_str}
use Rattle.ct_words.specs.declared.limits.TheConstants.{MAX_N}
use Rattle.ct_words.specs.Text.{is_binary_digit}
use Rattle.ct_names.specs.Id.{is_id}
use Rattle.ct_fields.specs.Fields.{number_in}
use Rattle.ct_fields.specs.Forms.{all_of, list_data}
use Rattle.ct_fields.specs.Ids.{id_in}
use Rattle.ct_fields.specs.Schema.{Form}
use Rattle.ct_fields.specs.declared.field.FieldName.{FieldName}
use Rattle.ct_fields.specs.declared.field.FieldName.TheVariants.{Op, Places}
use Rattle.ct_build_files.specs.Operation.{operation_text, operation_named}
use Rattle.ct_build_files.specs.declared.operation.Operation.{Operation}

-- the operation whose text the value is
abbrev pub operation_in : Data → Option Operation
operation_in d = option_and_then operation_named (as_str d)

-- whether the numbers ascend, the first one at least low, and are below high
abbrev pub ascend : ℕ → ℕ → List ℕ → Bool
ascend low high [] = true
ascend low high (k ∷ ks) = nat_le low k && nat_lt k high && ascend (suc k) high ks

-- whether these are 1 or more places, distinct and ascending, whose leaving out makes words of length n of words of at most MAX_N digits
abbrev pub are_left_out : ℕ → List ℕ → Bool
are_left_out n places = nat_le 1 (length places) && nat_le (n + length places) MAX_N && ascend 0 (n + length places) places

-- the places that the list is, whose leaving out makes words of length n
abbrev pub places_in : ℕ → Data → Option (List ℕ)
places_in n (array ds) = option_and_then (λ places. if are_left_out n places then Some places else None) (all_of (number_in 0 MAX_N) ds)
places_in n _ = None

-- the digits that the text writes, where it is so many digits `0` and `1`
unfoldable pub digits_of : ℕ → List ℕ → Option (List ℕ)
digits_of count text = if length text == count && list_all is_binary_digit text then Some (map (λ b. b - 48) text) else None

-- an operation, by its text
abbrev pub operation_form : Form Operation
operation_form = record { name = Op; value = operation_in; written = λ o. string (operation_text o); is_right = λ o. true }

-- the places whose leaving out makes words of length n
abbrev pub places_form : ℕ → Form (List ℕ)
places_form n = record { name = Places; value = places_in n; written = list_data (λ k. integer (pos k)); is_right = are_left_out n }

-- a text
abbrev pub text_form : FieldName → Form (List ℕ)
text_form name = record { name = name; value = as_str; written = string; is_right = λ text. true }

-- an id
abbrev pub id_form : FieldName → Form (List ℕ)
id_form name = record { name = name; value = id_in; written = string; is_right = is_id }
