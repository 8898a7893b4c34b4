-- The fields of an entry, in the three ways in which documents state one.
use Rattle.std.specs.Prelude.{ℕ, ◌==◌, ◌%◌, ◌&&◌, not, nat_le, pos, Bool, true, if◌then◌else◌, Some, None}
use Rattle.std.specs.Option.{option_and_then}
use Rattle.toml.specs.Data.{integer}
use Rattle.ct_words.specs.declared.entry.Entry.{Entry}
use Rattle.ct_words.specs.declared.limits.TheConstants.{MAX_N}
use Rattle.ct_words.specs.Entry.{unrestricted, constant_weight}
use Rattle.ct_fields.specs.Fields.{number_in}
use Rattle.ct_fields.specs.Schema.{Form, Schema, needs, may_have, asks}
use Rattle.ct_fields.specs.declared.field.FieldName.{FieldName}
use Rattle.ct_fields.specs.declared.field.FieldName.TheVariants.{N, D, W}

-- an integer from low to high
abbrev pub number_form : FieldName → ℕ → ℕ → Form ℕ
number_form name low high = record {
  name = name;
  value = number_in low high;
  written = λ k. integer (pos k);
  is_right = λ k. nat_le low k && nat_le k high;
}

-- a distance: from 3 to MAX_N, and even if it has to be
abbrev pub distance_form : Bool → Form ℕ
distance_form even = record {
  name = D;
  value = λ d. option_and_then (λ k. if not (even && k % 2 == 1) then Some k else None) (number_in 3 MAX_N d);
  written = λ k. integer (pos k);
  is_right = λ k. (nat_le 3 k && nat_le k MAX_N) && not (even && k % 2 == 1);
}

-- an entry without weight: n and d
abbrev pub plain_entry : {R : Type 0} → (Entry → Schema R) → Schema R
plain_entry next = needs (number_form N 1 MAX_N) (λ n. needs (number_form D 3 MAX_N) (λ d. next (unrestricted n d)))

-- an entry with a weight: n, an even d, and w
abbrev pub weighted_entry : {R : Type 0} → (Entry → Schema R) → Schema R
weighted_entry next =
    needs (number_form N 1 MAX_N) (λ n. needs (distance_form true) (λ d. needs (number_form W 0 n) (λ w. next (constant_weight n d w))))

-- an entry whose weight may be left out: n, d, which is even if w is there, and w
abbrev pub any_entry : {R : Type 0} → (Entry → Schema R) → Schema R
any_entry next =
    needs (number_form N 1 MAX_N) (λ n.
    asks W (λ d. true) (λ weighted. needs (distance_form weighted) (λ d. may_have (number_form W 0 n) (λ w. next (record { n = n; d = d; w = w })))))
