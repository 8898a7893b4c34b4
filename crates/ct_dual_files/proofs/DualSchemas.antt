-- What the documents of duals state are duals of their form, and what is written for a dual states it again.
use Rattle.std.proofs.Common.{◌≡◌, ℕ, ◌%◌, Bool, false, not, ◌==◌, ◌&&◌, ◌||◌, nat_le, IsTrue, List, [], ◌∷◌, Option, Some, None, Result, Ok, refl, sym, subst, le-leb, leb-true, eq-eqb, eqb-true}
use Rattle.std.specs.Prelude.{ℤ, pos, IsSome}
use Rattle.std.specs.Option.{unwrap_or}
use Rattle.std.proofs.lemmas.Bool.{and_parts, and_from}
use Rattle.toml.specs.Data.{Data, integer, boolean}
use Rattle.ct_words.specs.declared.entry.Entry.{Entry}
use Rattle.ct_words.specs.Entry.{IsEntry, is_entry}
use Rattle.ct_parity.specs.declared.sums.TheConstants.{MAX_ODD}
use Rattle.ct_duals.specs.declared.dual.Dual.{Dual}
use Rattle.ct_duals.specs.Dual.{IsDual, IsMarkOf}
use Rattle.ct_duals.specs.Form.{are_multipliers, are_allowances, is_mark}
use Rattle.ct_duals.proofs.FormLemmas.{form-from, form-to}
use Rattle.ct_fields.specs.Schema.{states, needs, may_have, MayHave, StatedBy}
use Rattle.ct_fields.specs.declared.field.FieldName.TheVariants as name
use Rattle.ct_fields.specs.declared.fault.DocumentFault.{DocumentFault}
use Rattle.ct_fields.proofs.EntryForms.{plain-stated, weighted-stated, plain-writes, weighted-writes}
use Rattle.ct_fields.proofs.WrittenSchema.{Writes}
use Rattle.ct_kind.specs.declared.evidence.Evidence.{Evidence}
use Rattle.ct_kind.specs.declared.evidence.Evidence.TheVariants as evidence
use Rattle.ct_dual_files.specs.Fields.{even_form, IsOddSize, odd_size_form, integer_list, multipliers_form, allowances_form}
use Rattle.ct_dual_files.specs.Dual.{numbers_schema, dual_schema, odd_schema, johnson_dual_schema, local_dual_schema, numbers_fields, dual_fields, odd_fields, johnson_dual_fields, local_dual_fields}

-- ---- what is stated

same_value : {A : Type 0} (a x : A) → ◌≡◌ {A = Result A DocumentFault} (Ok a) (Ok x) → x ≡ a
same_value a x e = let same : a ≡ x = cc in sym same

-- a mark that may be left out is right
mark_right : (document : Data) (d : ℕ) (even : Option Bool) → MayHave (even_form d) document even → IsTrue (not (unwrap_or even false) || d % 2 == 0)
mark_right document d None none = refl
mark_right document d (Some even) has = has.1

-- and so is what is allowed
allowed_right : (document : Data) (e : Entry) (even : Bool) (y : Option (List (ℕ × ℤ))) → MayHave (allowances_form e even) document y
    → IsTrue (are_allowances e even (unwrap_or y []))
allowed_right document e even None none = refl
allowed_right document e even (Some y) has = has.1

-- right numbers make a dual
formed : (e : Entry) (even : Bool) (c : List ℤ) (y : List (ℕ × ℤ)) → IsEntry e → IsTrue (is_mark e.w e.d even) → IsTrue (are_multipliers e c) → IsTrue (are_allowances e even y)
    → IsDual (record { entry = e; even = even; c = c; y = y })
formed e even c y entry mark multipliers allowances =
    form-from (record { entry = e; even = even; c = c; y = y })
    (and_from (is_entry e && is_mark e.w e.d even && are_multipliers e c) (are_allowances e even y)
    (and_from (is_entry e && is_mark e.w e.d even) (are_multipliers e c) (and_from (is_entry e) (is_mark e.w e.d even) entry mark) multipliers) allowances)

plain_mark : (e : Entry) (even : Bool) → e.w ≡ None → IsTrue (not even || e.d % 2 == 0) → IsTrue (is_mark e.w e.d even)
plain_mark e even plain right = subst (λ (w : Option ℕ). IsTrue (is_mark w e.d even)) (sym plain) right

weighted_mark : (w : Option ℕ) (d : ℕ) → IsSome w → IsTrue (is_mark w d false)
weighted_mark None d some = absurd cc
weighted_mark (Some w) d some = refl

pub dual-sound : (document : Data) (x : Evidence) → StatedBy dual_schema document x → (d : Dual) × (x ≡ evidence.Dual d) × IsDual d × (d.entry.w ≡ None)
dual-sound document x stated =
    let (e, entry, plain, (even, even-has, (c, c-has, (y, y-has, made)))) =
    plain-stated (λ e. may_have (even_form e.d) (λ even. numbers_schema e (unwrap_or even false) evidence.Dual)) document x stated in (
      record { entry = e; even = unwrap_or even false; c = c; y = unwrap_or y [] },
      same_value _ x made,
      formed e (unwrap_or even false) c (unwrap_or y []) entry (plain_mark e (unwrap_or even false) plain (mark_right document e.d even even-has)) c-has.1
          (allowed_right document e (unwrap_or even false) y y-has),
      plain,
    )

odd_size : (m : ℕ) → IsTrue ((nat_le 3 m && nat_le m MAX_ODD) && m % 2 == 1) → IsOddSize m
odd_size m right =
    let (range, odd) = and_parts (nat_le 3 m && nat_le m MAX_ODD) (m % 2 == 1) right in
    let (above, below) = and_parts (nat_le 3 m) (nat_le m MAX_ODD) range in
    (leb-true 3 m above, leb-true m MAX_ODD below, eqb-true (m % 2) 1 odd)

pub odd-sound : (document : Data) (x : Evidence) → StatedBy odd_schema document x
    → (d : Dual) × (m : ℕ) × (x ≡ evidence.Odd d m) × IsDual d × (d.entry.w ≡ None) × IsOddSize m
odd-sound document x stated =
    let (e, entry, plain, (even, even-has, (m, m-has, (c, c-has, (y, y-has, made))))) =
    plain-stated (λ e. may_have (even_form e.d) (λ even. needs odd_size_form (λ m. numbers_schema e (unwrap_or even false) (λ d. evidence.Odd d m)))) document x stated in (
      record { entry = e; even = unwrap_or even false; c = c; y = unwrap_or y [] },
      m,
      same_value _ x made,
      formed e (unwrap_or even false) c (unwrap_or y []) entry (plain_mark e (unwrap_or even false) plain (mark_right document e.d even even-has)) c-has.1
          (allowed_right document e (unwrap_or even false) y y-has),
      plain,
      odd_size m m-has.1,
    )

pub johnson_dual-sound : (document : Data) (x : Evidence) → StatedBy johnson_dual_schema document x
    → (d : Dual) × (x ≡ evidence.JohnsonDual d) × IsDual d × IsSome d.entry.w × (d.y ≡ [])
johnson_dual-sound document x stated =
    let (e, entry, some, (c, c-has, made)) =
    weighted-stated (λ e. needs (multipliers_form e) (λ c. states (Ok (evidence.JohnsonDual (record { entry = e; even = false; c = c; y = [] }))))) document x stated in (
      record { entry = e; even = false; c = c; y = [] },
      same_value _ x made,
      formed e false c [] entry (weighted_mark e.w e.d some) c-has.1 refl,
      some,
      refl,
    )

pub local_dual-sound : (document : Data) (x : Evidence) → StatedBy local_dual_schema document x
    → (d : Dual) × (x ≡ evidence.JohnsonLocal d) × IsDual d × IsSome d.entry.w
local_dual-sound document x stated =
    let (e, entry, some, (c, c-has, (y, y-has, made))) = weighted-stated (λ e. numbers_schema e false evidence.JohnsonLocal) document x stated in (
      record { entry = e; even = false; c = c; y = unwrap_or y [] },
      same_value _ x made,
      formed e false c (unwrap_or y []) entry (weighted_mark e.w e.d some) c-has.1 (allowed_right document e false y y-has),
      some,
    )

-- ---- what is written

-- the numbers of a dual are right
record AreRight (d : Dual) : Type 0 where
  mark : IsTrue (is_mark d.entry.w d.entry.d d.even)
  multipliers : IsTrue (are_multipliers d.entry d.c)
  allowances : IsTrue (are_allowances d.entry d.even d.y)

right : (d : Dual) → IsDual d → AreRight d
right d form =
    let (front, allowances) = and_parts (is_entry d.entry && is_mark d.entry.w d.entry.d d.even && are_multipliers d.entry d.c) (are_allowances d.entry d.even d.y) (form-to d form) in
    let (first, multipliers) = and_parts (is_entry d.entry && is_mark d.entry.w d.entry.d d.even) (are_multipliers d.entry d.c) front in
    record { mark = (and_parts (is_entry d.entry) (is_mark d.entry.w d.entry.d d.even) first).1; multipliers = multipliers; allowances = allowances }

mark_written : (d : Dual) → IsDual d → d.entry.w ≡ None → IsTrue (not d.even || d.entry.d % 2 == 0)
mark_written d form plain = subst (λ (w : Option ℕ). IsTrue (is_mark w d.entry.d d.even)) plain (right d form).mark

-- one with a weight has no mark
unmarked : (w : Option ℕ) (even : Bool) → IsSome w → IsMarkOf w even → even ≡ false
unmarked None even some mark = absurd cc
unmarked (Some w) even some mark = mark

pub dual-writes : (d : Dual) → IsDual d → d.entry.w ≡ None → Writes [] dual_schema (dual_fields d) (Ok (evidence.Dual d))
dual-writes d form plain =
    let r = right d form in
    plain-writes (λ e. may_have (even_form e.d) (λ even. numbers_schema e (unwrap_or even false) evidence.Dual)) d.entry ((name.Even, Some (boolean d.even)) ∷ numbers_fields d)
    (Ok (evidence.Dual d)) form.entry plain
    (Some d.even, refl, mark_written d form plain, (d.c, refl, r.multipliers, (Some d.y, refl, r.allowances, (refl, refl))))

pub odd-writes : (d : Dual) (m : ℕ) → IsDual d → d.entry.w ≡ None → IsOddSize m → Writes [] odd_schema (odd_fields d m) (Ok (evidence.Odd d m))
odd-writes d m form plain (above, below, odd) =
    let r = right d form in
    let size = and_from (nat_le 3 m && nat_le m MAX_ODD) (m % 2 == 1) (and_from (nat_le 3 m) (nat_le m MAX_ODD) (le-leb 3 m above) (le-leb m MAX_ODD below)) (eq-eqb (m % 2) 1 odd) in
    plain-writes (λ e. may_have (even_form e.d) (λ even. needs odd_size_form (λ m. numbers_schema e (unwrap_or even false) (λ d. evidence.Odd d m)))) d.entry
    ((name.Even, Some (boolean d.even)) ∷ (name.M, Some (integer (pos m))) ∷ numbers_fields d) (Ok (evidence.Odd d m)) form.entry plain
    (Some d.even, refl, mark_written d form plain, (m, refl, size, (d.c, refl, r.multipliers, (Some d.y, refl, r.allowances, (refl, refl)))))

pub johnson_dual-writes : (d : Dual) → IsDual d → IsSome d.entry.w → d.y ≡ [] → Writes [] johnson_dual_schema (johnson_dual_fields d) (Ok (evidence.JohnsonDual d))
johnson_dual-writes d form some empty =
    let r = right d form in
    let plain_mark = unmarked d.entry.w d.even some form.weighted in
    weighted-writes (λ e. needs (multipliers_form e) (λ c. states (Ok (evidence.JohnsonDual (record { entry = e; even = false; c = c; y = [] }))))) d.entry
    ((name.C, Some (integer_list d.c)) ∷ []) (Ok (evidence.JohnsonDual d)) form.entry some
    (d.c, refl, r.multipliers, (refl, λ i. Ok (evidence.JohnsonDual (record { entry = d.entry; even = sym plain_mark i; c = d.c; y = sym empty i }))))

pub local_dual-writes : (d : Dual) → IsDual d → IsSome d.entry.w → Writes [] local_dual_schema (local_dual_fields d) (Ok (evidence.JohnsonLocal d))
local_dual-writes d form some =
    let r = right d form in
    let plain_mark = unmarked d.entry.w d.even some form.weighted in
    weighted-writes (λ e. numbers_schema e false evidence.JohnsonLocal) d.entry (numbers_fields d) (Ok (evidence.JohnsonLocal d)) form.entry some (
      d.c,
      refl,
      r.multipliers,
      (
        Some d.y,
        refl,
        subst (λ (even : Bool). IsTrue (are_allowances d.entry even d.y)) plain_mark r.allowances,
        (refl, λ i. Ok (evidence.JohnsonLocal (record { entry = d.entry; even = sym plain_mark i; c = d.c; y = d.y }))),
      ),
    )
