-- What a rule gives over the bounds that stand.
use Rattle.std.proofs.Common.{◌≡◌, ℕ, ◌≤◌, List, ◌∷◌, map, Some, None, true, refl, ap, sym, ◌∙◌, arith}
use Rattle.std.specs.Prelude.{Bool, false, ◌&&◌, if◌then◌else◌, Option}
use Rattle.std.proofs.lemmas.Bool.{and_parts}
use Rattle.std.proofs.lemmas.Option.{cond_some, none-some}
use Rattle.ct_words.specs.declared.limits.TheConstants.{MAX_BOUND}
use Rattle.ct_words.specs.declared.claim.Side.{Side}
use Rattle.ct_words.specs.declared.entry.Entry.{Entry}
use Rattle.ct_rule_parts.specs.declared.support.Support.{Support}
use Rattle.ct_words.specs.Entry.{IsEntry, is_entry}
use Rattle.ct_rule_parts.specs.Parts.{are_entries, slots_on}
use Rattle.ct_rule_parts.specs.Slot.{Slot}
use Rattle.ct_rules.specs.declared.rule.Rule.{Rule}
use Rattle.ct_rules.specs.Rule.{rule_side, applies, parts_over, premises_at, value_of}
use Rattle.ct_rules.proofs.Applied.{value-given, limit_of}
use Rattle.ct_offers.specs.Offers.{value_over}
use Rattle.ct_offers.proofs.SatisfiedLemmas.{where_given, value_over-defined}

-- a rule that gives a bound is defined
pub over-applies : (supports : List Support) (f : Slot → ℕ) (r : Rule) (e : Entry) (v : ℕ)
    → value_over supports f r e ≡ Some v → applies supports r e ≡ true
over-applies supports f r e v h =
    (where_given (applies supports r e) (value_of supports r e (map f (premises_at supports r e))) v h).0

-- and gives it of the bounds of its premises
pub over-value : (supports : List Support) (f : Slot → ℕ) (r : Rule) (e : Entry) (v : ℕ)
    → value_over supports f r e ≡ Some v → value_of supports r e (map f (premises_at supports r e)) ≡ Some v
over-value supports f r e v h =
    (where_given (applies supports r e) (value_of supports r e (map f (premises_at supports r e))) v h).1

-- it is not above the greatest bound
pub over-limit : (supports : List Support) (f : Slot → ℕ) (r : Rule) (e : Entry) (v : ℕ)
    → value_over supports f r e ≡ Some v → v ≤ MAX_BOUND
over-limit supports f r e v h =
    let vs = map f (premises_at supports r e) in
    let number =
    limit_of (rule_side r) ((parts_over supports r).number e vs) v
    (value-given supports r e vs v (over-value supports f r e v h)) in
    omega (arith, number.1.least)

-- a rule that is not defined gives nothing
pub over-none : (supports : List Support) (f : Slot → ℕ) (r : Rule) (e : Entry) → applies supports r e ≡ false
    → value_over supports f r e ≡ None
over-none supports f r e h =
    ap (λ (b : Bool). if b then value_of supports r e (map f (premises_at supports r e)) else None) h

-- the first of entries of the table, and the others
pub first_in_table : (e : Entry) (es : List Entry) → are_entries (e ∷ es) ≡ true → IsEntry e
first_in_table e es h = (and_parts (is_entry e) (are_entries es) h).0

pub rest_in_table : (e : Entry) (es : List Entry) → are_entries (e ∷ es) ≡ true → are_entries es ≡ true
rest_in_table e es h = (and_parts (is_entry e) (are_entries es) h).1

-- a bound that is read where its entry is in the table: it is there, and is the one that stands
pub read_there : (f : Slot → ℕ) (side : Side) (e : Entry) (o : Option ℕ) (v : ℕ) → o ≡ (if is_entry e then Some (f (side, e)) else None)
    → o ≡ Some v → (is_entry e ≡ true) × (f (side, e) ≡ v)
read_there f side e o v read is = cond_some (is_entry e) (f (side, e)) v (sym read ∙ is)

-- where none is read the entry is not in the table
pub none_given : {X : Type 0} (b : Bool) (x : X) → (if b then Some x else None) ≡ None → b ≡ false
none_given true x h = absurd (none-some x (sym h))
none_given false x h = refl

pub read_none : (f : Slot → ℕ) (side : Side) (e : Entry) (o : Option ℕ) → o ≡ (if is_entry e then Some (f (side, e)) else None) → o ≡ None
    → is_entry e ≡ false
read_none f side e o read is = none_given (is_entry e) (f (side, e)) (sym read ∙ is)

-- entries of which the first is not in the table, or is
pub first_out : (e : Entry) (es : List Entry) → is_entry e ≡ false → are_entries (e ∷ es) ≡ false
first_out e es out = ap (λ (b : Bool). b && are_entries es) out

pub first_in : (e : Entry) (es : List Entry) (all : Bool) → is_entry e ≡ true → are_entries es ≡ all → are_entries (e ∷ es) ≡ all
first_in e es all there rest = ap (λ (b : Bool). b && are_entries es) there ∙ rest

-- a rule whose condition holds at an entry of the table and that rests on entries there: it is defined where they are in the table, and
-- what it gives then is its value of their bounds, else nothing
module _ (supports : List Support) (f : Slot → ℕ) (r : Rule) (e : Entry) (es : List Entry) (entry : IsEntry e)
    (condition : (parts_over supports r).condition e ≡ true) (rests_on : (parts_over supports r).rests_on e ≡ es) where
  pub asked-applies : (all : Bool) → are_entries es ≡ all → applies supports r e ≡ all
  asked-applies all are =
      let p = parts_over supports r in
      ap (λ (b : Bool). b && p.condition e && are_entries (p.rests_on e)) entry
      ∙ ap (λ (b : Bool). b && are_entries (p.rests_on e)) condition ∙ ap are_entries rests_on ∙ are

  pub asked-none : are_entries es ≡ false → (o : Option ℕ) → o ≡ None → o ≡ value_over supports f r e
  asked-none out o none = none ∙ sym (over-none supports f r e (asked-applies false out))

  pub asked-value : are_entries es ≡ true → (vs : List ℕ) (o : Option ℕ) → map f (slots_on (rule_side r) es) ≡ vs
      → o ≡ value_of supports r e vs → o ≡ value_over supports f r e
  asked-value there vs o same is =
      let value = λ (these : List Entry). value_of supports r e (map f (slots_on (rule_side r) these)) in
      is ∙ ap (λ (us : List ℕ). value_of supports r e us) (sym same) ∙ ap value (sym rests_on)
      ∙ sym (value_over-defined supports f r e (asked-applies true there))

-- one whose condition does not hold gives nothing
pub unasked-none : (supports : List Support) (f : Slot → ℕ) (r : Rule) (e : Entry) → IsEntry e → (parts_over supports r).condition e ≡ false
    → (o : Option ℕ) → o ≡ None → o ≡ value_over supports f r e
unasked-none supports f r e entry fails o none =
    let p = parts_over supports r in
    none ∙ sym (over-none supports f r e
    (ap (λ (b : Bool). b && p.condition e && are_entries (p.rests_on e)) entry ∙ ap (λ (b : Bool). b && are_entries (p.rests_on e)) fails))
