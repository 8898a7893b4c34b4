-- The documents of duals: what their fields state, and what is written for them.
use Rattle.std.specs.Prelude.{ℕ, pos, Bool, false, List, [], ◌∷◌, Option, Some, Ok}
use Rattle.std.specs.Option.{unwrap_or}
use Rattle.toml.specs.Data.{Data, integer, boolean}
use Rattle.ct_words.specs.declared.entry.Entry.{Entry}
use Rattle.ct_fields.specs.Schema.{Schema, states, needs, may_have}
use Rattle.ct_fields.specs.EntrySchema.{plain_entry, weighted_entry}
use Rattle.ct_fields.specs.WrittenSchema.{with_plain, with_entry}
use Rattle.ct_fields.specs.declared.field.FieldName.{FieldName}
use Rattle.ct_fields.specs.declared.field.FieldName.TheVariants as name
use Rattle.ct_duals.specs.declared.dual.Dual.{Dual}
use Rattle.ct_kind.specs.declared.evidence.Evidence.{Evidence}
use Rattle.ct_kind.specs.declared.evidence.Evidence.TheVariants as evidence
use Rattle.ct_dual_files.specs.Fields.{even_form, odd_size_form, integer_list, multipliers_form, pair_list, allowances_form}

-- the numbers of a dual of this entry with this mark `even`: c, and y, which is left out if nothing is allowed
abbrev pub numbers_schema : Entry → Bool → (Dual → Evidence) → Schema Evidence
numbers_schema e even made =
    needs (multipliers_form e) (λ c.
    may_have (allowances_form e even) (λ y. states (Ok (made (record { entry = e; even = even; c = c; y = unwrap_or y [] })))))

-- kind dual: n, d, even, which may be left out if it is false, c and y
abbrev pub dual_schema : Schema Evidence
dual_schema = plain_entry (λ e. may_have (even_form e.d) (λ even. numbers_schema e (unwrap_or even false) evidence.Dual))

-- kind odd: n, d, even, the number of words m, c and y
abbrev pub odd_schema : Schema Evidence
odd_schema =
    plain_entry (λ e.
    may_have (even_form e.d) (λ even. needs odd_size_form (λ m. numbers_schema e (unwrap_or even false) (λ d. evidence.Odd d m))))

-- kind jdual: n, an even d, w and c
abbrev pub johnson_dual_schema : Schema Evidence
johnson_dual_schema =
    weighted_entry (λ e.
    needs (multipliers_form e) (λ c. states (Ok (evidence.JohnsonDual (record { entry = e; even = false; c = c; y = [] })))))

-- kind jlocal: n, an even d, w, c and y
abbrev pub local_dual_schema : Schema Evidence
local_dual_schema = weighted_entry (λ e. numbers_schema e false evidence.JohnsonLocal)

-- the numbers of a dual
abbrev pub numbers_fields : Dual → List (FieldName × Option Data)
numbers_fields d = (name.C, Some (integer_list d.c)) ∷ (name.Y, Some (pair_list d.y)) ∷ []

-- what is written for a document of kind dual
abbrev pub dual_fields : Dual → List (FieldName × Option Data)
dual_fields d = with_plain d.entry ((name.Even, Some (boolean d.even)) ∷ numbers_fields d)

-- for one of kind odd
abbrev pub odd_fields : Dual → ℕ → List (FieldName × Option Data)
odd_fields d m = with_plain d.entry ((name.Even, Some (boolean d.even)) ∷ (name.M, Some (integer (pos m))) ∷ numbers_fields d)

-- for one of kind jdual
abbrev pub johnson_dual_fields : Dual → List (FieldName × Option Data)
johnson_dual_fields d = with_entry d.entry ((name.C, Some (integer_list d.c)) ∷ [])

-- for one of kind jlocal
abbrev pub local_dual_fields : Dual → List (FieldName × Option Data)
local_dual_fields d = with_entry d.entry (numbers_fields d)
