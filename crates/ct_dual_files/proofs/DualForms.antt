-- The fields of documents of duals have forms.
use Rattle.std.proofs.Common.{◌≡◌, ℕ, ◌≤◌, ◌-◌, ◌%◌, Bool, true, false, not, ◌==◌, ◌&&◌, ◌||◌, nat_le, IsTrue, List, [], Some, None, Ok, cond, refl, ap, subst, leb-true, arith}
use Rattle.std.specs.Prelude.{ℤ, pos, All, ⊤}
use Rattle.std.specs.Option.{unwrap_or}
use Rattle.std.proofs.lemmas.Bool.{and_parts, and_from}
use Rattle.std.proofs.lemmas.Option.{option_and_then_some, cond_some}
use Rattle.std.proofs.Math.Nat.{min-le_left}
use Rattle.toml.specs.Data.{Data, string, integer, float, boolean, datetime, array, table, as_integer, as_bool}
use Rattle.ct_words.specs.declared.limits.TheConstants.{MAX_N}
use Rattle.ct_words.specs.declared.entry.Entry.{Entry}
use Rattle.ct_words.specs.Entry.{unrestricted, constant_weight}
use Rattle.ct_fields.specs.Fields.{number_in}
use Rattle.ct_fields.specs.Forms.{pair_in, all_of}
use Rattle.ct_fields.specs.Schema.{states, needs, may_have}
use Rattle.ct_fields.specs.declared.field.FieldName.TheVariants as name
use Rattle.ct_fields.proofs.FormLemmas.{ReadsBack, pair-reads, all-some, all-from, integer-reads, index-reads}
use Rattle.ct_fields.proofs.SchemaLemmas.{IsForm, AreForms}
use Rattle.ct_fields.proofs.EntryForms.{number-form, plain-forms, weighted-forms}
use Rattle.ct_parity.specs.declared.sums.TheConstants.{MAX_ODD}
use Rattle.ct_duals.specs.declared.dual.Dual.{Dual}
use Rattle.ct_duals.specs.Dual.{degree_of, is_in_range}
use Rattle.ct_duals.specs.Form.{are_multipliers, are_allowances}
use Rattle.ct_duals.proofs.FormLemmas.{allowances-from}
use Rattle.ct_kind.specs.declared.evidence.Evidence.{Evidence}
use Rattle.ct_kind.specs.declared.evidence.Evidence.TheVariants as evidence
use Rattle.ct_dual_files.specs.Fields.{even_form, odd_size_form, integer_list, multipliers_in, multipliers_form, index_pair, pair_list, allowances_in, allowances_form}
use Rattle.ct_dual_files.specs.Dual.{numbers_schema, dual_schema, odd_schema, johnson_dual_schema, local_dual_schema}

-- ---- the mark `even`

-- a value that is a truth value
as_bool-some : (d : Data) (b : Bool) → as_bool d ≡ Some b → d ≡ boolean b
as_bool-some (boolean a) b e = let same : a ≡ b = cc in ap boolean same
as_bool-some (string s) b e = absurd cc
as_bool-some (integer z) b e = absurd cc
as_bool-some (float x) b e = absurd cc
as_bool-some (datetime t) b e = absurd cc
as_bool-some (array ds) b e = absurd cc
as_bool-some (table ms) b e = absurd cc

even-form : (d : ℕ) → IsForm (even_form d)
even-form d = record {
  own = refl;
  reads = record {
    some = λ v even e.
        option_and_then_some (λ b. cond (not b || d % 2 == 0) (Some b) None) (as_bool v) even e (λ b found h.
        let (test, same) = cond_some (not b || d % 2 == 0) b even h in
        subst (λ x. (v ≡ boolean x) × IsTrue (not x || d % 2 == 0)) same (as_bool-some v b found, test));
    from = λ even right. rw right refl;
  };
}

-- ---- the number of words

odd_size-form : IsForm odd_size_form
odd_size-form = record {
  own = refl;
  reads = record {
    some = λ v m e.
        option_and_then_some (λ k. cond (k % 2 == 1) (Some k) None) (number_in 3 MAX_ODD v) m e (λ k found h.
        let (test, same) = cond_some (k % 2 == 1) k m h in
        let (is, right) = (number-form name.M 3 MAX_ODD refl).reads.some v k found in
        rw (← same) (is, and_from (nat_le 3 k && nat_le k MAX_ODD) (k % 2 == 1) right test));
    from = λ m right. let (range, test) = and_parts (nat_le 3 m && nat_le m MAX_ODD) (m % 2 == 1) right in rw (range, test) refl;
  };
}

-- ---- the multipliers

multipliers_in-some : (e : Entry) (d : Data) (c : List ℤ) → multipliers_in e d ≡ Some c → (d ≡ integer_list c) × (are_multipliers e c ≡ true)
multipliers_in-some e (array ds) c h =
    option_and_then_some (λ c. cond (are_multipliers e c) (Some c) None) (all_of as_integer ds) c h (λ x found is.
    let (test, same) = cond_some (are_multipliers e x) x c is in
    rw (← same) (ap array (all-some as_integer integer (λ z. ⊤) integer-reads ds x found).0, test))
multipliers_in-some e (string s) c h = absurd cc
multipliers_in-some e (integer z) c h = absurd cc
multipliers_in-some e (float x) c h = absurd cc
multipliers_in-some e (boolean b) c h = absurd cc
multipliers_in-some e (datetime t) c h = absurd cc
multipliers_in-some e (table ms) c h = absurd cc

multipliers-form : (e : Entry) → IsForm (multipliers_form e)
multipliers-form e = record {
  own = refl;
  reads = record {
    some = multipliers_in-some e;
    from = λ c right. rw (all-from as_integer integer (λ z. ⊤) integer-reads c (λ k d l. tt), right) refl;
  };
}

-- ---- the allowances

-- pairs that are read are those that are written, if their indices are small
abbrev IsIndexPair : ℕ × ℤ → Type 0
IsIndexPair p = (p.0 ≤ MAX_N) × ⊤

pairs-read : ReadsBack (pair_in (number_in 0 MAX_N) as_integer) index_pair IsIndexPair
pairs-read = pair-reads (number_in 0 MAX_N) as_integer (λ k. integer (pos k)) integer (λ k. k ≤ MAX_N) (λ z. ⊤) index-reads integer-reads

allowances_in-some : (e : Entry) (even : Bool) (d : Data) (y : List (ℕ × ℤ)) → allowances_in e even d ≡ Some y
    → (d ≡ pair_list y) × (are_allowances e even y ≡ true)
allowances_in-some e even (array ds) y h =
    option_and_then_some (λ y. cond (are_allowances e even y) (Some y) None) (all_of (pair_in (number_in 0 MAX_N) as_integer) ds) y h (λ x found is.
    let (test, same) = cond_some (are_allowances e even x) x y is in
    rw (← same) (ap array (all-some (pair_in (number_in 0 MAX_N) as_integer) index_pair IsIndexPair pairs-read ds x found).0, test))
allowances_in-some e even (string s) y h = absurd cc
allowances_in-some e even (integer z) y h = absurd cc
allowances_in-some e even (float x) y h = absurd cc
allowances_in-some e even (boolean b) y h = absurd cc
allowances_in-some e even (datetime t) y h = absurd cc
allowances_in-some e even (table ms) y h = absurd cc

-- an index of the range is small
in_range-small : (e : Entry) (even : Bool) (i : ℕ) → degree_of e ≤ MAX_N → is_in_range e even i ≡ true → i ≤ MAX_N
in_range-small e even i few h =
    let two = and_parts (_ && nat_le i (degree_of e)) (not even || i % 2 == 0) h in
    let one = and_parts _ (nat_le i (degree_of e)) two.0 in
    let below = leb-true i (degree_of e) one.1 in
    omega arith

allowances-form : (e : Entry) (even : Bool) → degree_of e ≤ MAX_N → IsForm (allowances_form e even)
allowances-form e even few = record {
  own = refl;
  reads = record {
    some = allowances_in-some e even;
    from = λ y right.
        let (above, ascending, each, small) = allowances-from e even 0 y right in
        let indices : All IsIndexPair y = λ k d l. (in_range-small e even _ few (each k d l).0, tt) in
        rw (all-from (pair_in (number_in 0 MAX_N) as_integer) index_pair IsIndexPair pairs-read y indices, right) refl;
  };
}

-- ---- the kinds

-- the greatest index of two words of one weight is at most their length
small_degree : (n d w : ℕ) → n ≤ MAX_N → w ≤ n → degree_of (constant_weight n d w) ≤ MAX_N
small_degree n d w short light = let below = min-le_left w (n - w) in omega (arith, below)

numbers-forms : (e : Entry) (even : Bool) (made : Dual → Evidence) → degree_of e ≤ MAX_N → AreForms (numbers_schema e even made)
numbers-forms e even made small = (multipliers-form e, λ c right. (allowances-form e even small, λ y right. tt))

pub dual-forms : AreForms dual_schema
dual-forms =
    plain-forms (λ e. may_have (even_form e.d) (λ even. numbers_schema e (unwrap_or even false) evidence.Dual)) (λ n d short.
    (even-form d, λ even right. numbers-forms (unrestricted n d) (unwrap_or even false) evidence.Dual short))

pub odd-forms : AreForms odd_schema
odd-forms =
    plain-forms (λ e. may_have (even_form e.d) (λ even. needs odd_size_form (λ m. numbers_schema e (unwrap_or even false) (λ d. evidence.Odd d m)))) (λ n d short.
    (even-form d, λ even right. (odd_size-form, λ m m-right. numbers-forms (unrestricted n d) (unwrap_or even false) (λ d. evidence.Odd d m) short)))

pub johnson_dual-forms : AreForms johnson_dual_schema
johnson_dual-forms =
    weighted-forms (λ e. needs (multipliers_form e) (λ c. states (Ok (evidence.JohnsonDual (record { entry = e; even = false; c = c; y = [] }))))) (λ n d w short light.
    (multipliers-form (constant_weight n d w), λ c right. tt))

pub local_dual-forms : AreForms local_dual_schema
local_dual-forms =
    weighted-forms (λ e. numbers_schema e false evidence.JohnsonLocal) (λ n d w short light.
    numbers-forms (constant_weight n d w) false evidence.JohnsonLocal (small_degree n d w short light))
