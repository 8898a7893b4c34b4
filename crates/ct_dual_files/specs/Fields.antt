-- The fields of the documents of duals.
use Rattle.std.specs.Prelude.{◌≡◌, ℕ, ℤ, pos, ◌≤◌, ◌%◌, ◌==◌, ◌&&◌, ◌||◌, not, nat_le, Bool, if◌then◌else◌, List, Option, Some, None}
use Rattle.std.specs.Option.{option_and_then}
use Rattle.toml.specs.Data.{Data, integer, boolean, array, as_integer, as_bool}
use Rattle.ct_words.specs.declared.limits.TheConstants.{MAX_N}
use Rattle.ct_words.specs.declared.entry.Entry.{Entry}
use Rattle.ct_fields.specs.Fields.{number_in}
use Rattle.ct_fields.specs.Forms.{pair_in, pair_data, all_of, list_data}
use Rattle.ct_fields.specs.Schema.{Form}
use Rattle.ct_fields.specs.declared.field.FieldName.TheVariants as name
use Rattle.ct_parity.specs.declared.sums.TheConstants.{MAX_ODD}
use Rattle.ct_duals.specs.Form.{are_multipliers, are_allowances}

-- whether the dual speaks of even distances alone, which it may at an even distance d
abbrev pub even_form : ℕ → Form Bool
even_form d = record {
  name = name.Even;
  value = λ v. option_and_then (λ even. if not even || d % 2 == 0 then Some even else None) (as_bool v);
  written = boolean;
  is_right = λ even. not even || d % 2 == 0;
}

-- a number of words that a document may exclude: odd, from 3 to MAX_ODD
abbrev pub IsOddSize : ℕ → Type 0
IsOddSize m = (3 ≤ m) × (m ≤ MAX_ODD) × (m % 2 ≡ 1)

-- such a number
abbrev pub odd_size_form : Form ℕ
odd_size_form = record {
  name = name.M;
  value = λ v. option_and_then (λ m. if m % 2 == 1 then Some m else None) (number_in 3 MAX_ODD v);
  written = λ m. integer (pos m);
  is_right = λ m. (nat_le 3 m && nat_le m MAX_ODD) && m % 2 == 1;
}

-- the list of whole numbers
abbrev pub integer_list : List ℤ → Data
integer_list = list_data integer

-- the multipliers that a list is: 1 to degree + 1 whole numbers of at least 0, in 64 signed bits
abbrev pub multipliers_in : Entry → Data → Option (List ℤ)
multipliers_in e (array ds) = option_and_then (λ c. if are_multipliers e c then Some c else None) (all_of as_integer ds)
multipliers_in e _ = None

-- the multipliers
abbrev pub multipliers_form : Entry → Form (List ℤ)
multipliers_form e = record { name = name.C; value = multipliers_in e; written = integer_list; is_right = are_multipliers e }

-- the list of an index and a number
abbrev pub index_pair : ℕ × ℤ → Data
index_pair = pair_data (λ k. integer (pos k)) integer

-- the list of pairs
abbrev pub pair_list : List (ℕ × ℤ) → Data
pair_list = list_data index_pair

-- the allowances that a list of pairs is: indices of the range in ascending order, each with a number of at least 0, in 64 signed bits
abbrev pub allowances_in : Entry → Bool → Data → Option (List (ℕ × ℤ))
allowances_in e even (array ds) = option_and_then (λ y. if are_allowances e even y then Some y else None) (all_of (pair_in (number_in 0 MAX_N) as_integer) ds)
allowances_in e even _ = None

-- the allowances
abbrev pub allowances_form : Entry → Bool → Form (List (ℕ × ℤ))
allowances_form e even = record { name = name.Y; value = allowances_in e even; written = pair_list; is_right = are_allowances e even }
