-- What is known where a rule is defined: its premises, its value, the support that it names.
use Rattle.std.proofs.Common.{◌≡◌, ℕ, zero, suc, ◌≤◌, List, [], ◌∷◌, length, All, option_map, refl, sym, ap, subst, ◌∙◌, arith, leb-true, le-leb}
use Rattle.std.specs.Prelude.{Bool, true, false, ◌&&◌, if◌then◌else◌, nat_le, min, slice_get, Option, Some, None, IsSome}
use Rattle.std.specs.Option.{ForSome}
use Rattle.std.proofs.lemmas.Bool.{and_parts, false≢true}
use Rattle.std.proofs.lemmas.List.{length-map}
use Rattle.std.proofs.lemmas.List.Elements.{All-nil, All-cons}
use Rattle.std.proofs.lemmas.Option.{cond_some, none-some, same_Some, slice_get_within, slice_get-map, get_or_from_slice_get}
use Rattle.ct_words.specs.declared.limits.TheConstants.{MAX_BOUND}
use Rattle.ct_words.specs.declared.entry.Entry.{Entry}
use Rattle.ct_words.specs.declared.claim.Side.{Side}
use Rattle.ct_words.specs.declared.claim.Side.TheVariants.{Lower, Upper}
use Rattle.ct_words.specs.Entry.{IsEntry, is_entry}
use Rattle.ct_rule_parts.specs.declared.support.Support.{Support}
use Rattle.ct_rule_parts.specs.Parts.{RuleParts, are_entries, is_defined, slots_on, within_limit}
use Rattle.ct_rule_parts.specs.declared.entries.Entries.{Entries}
use Rattle.ct_rule_parts.specs.Entries.{listed}
use Rattle.ct_rule_parts.specs.Slot.{Slot}
use Rattle.ct_rule_parts.specs.Support.{Stands, AllStand}
use Rattle.ct_rules.specs.declared.rule.Rule.{Rule}
use Rattle.ct_rules.specs.Rule.{rule_side, named_place, support_at, cited, parts_over, applies, premises_at, premises_of, count_of, premise_of, value_of}

-- a rule of these parts is defined at the entry
pub record IsDefined (p : RuleParts) (e : Entry) : Type 0 where
  pub entry : IsEntry e
  pub condition : p.condition e ≡ true
  pub premises : are_entries (p.rests_on e) ≡ true

pub defined : (p : RuleParts) (e : Entry) → is_defined p e ≡ true → IsDefined p e
defined p e h =
    let all = and_parts (is_entry e && p.condition e) (are_entries (p.rests_on e)) h in
    let front = and_parts (is_entry e) (p.condition e) all.0 in
    record { entry = front.0; condition = front.1; premises = all.1 }

-- sides of entries of the table are slots of it
pub slots_in_table : (side : Side) (entries : List Entry) → are_entries entries ≡ true
    → All (λ s. IsEntry s.1) (slots_on side entries)
slots_in_table side [] h = All-nil (λ s. IsEntry s.1)
slots_in_table side (e ∷ es) h =
    let both = and_parts (is_entry e) (are_entries es) h in
    All-cons (λ s. IsEntry s.1) (side, e) (slots_on side es) both.0 (slots_in_table side es both.1)

-- all of them have the side
pub slots_have_side : (side : Side) (entries : List Entry) → All (λ s. s.0 ≡ side) (slots_on side entries)
slots_have_side side [] = All-nil (λ s. s.0 ≡ side)
slots_have_side side (e ∷ es) =
    All-cons (λ s. s.0 ≡ side) (side, e) (slots_on side es) refl (slots_have_side side es)

-- what holds of each element holds of the one at a place
at_place : {X : Type 0} (P : X → Type 0) (xs : List X) (i : ℕ) → All P xs → ForSome (slice_get xs i) P
at_place P xs i all = λ x found.
    subst P (get_or_from_slice_get xs i x x found) (all i x (slice_get_within xs i x found))

-- where it has premises it applies
pub applies_from_premises : (supports : List Support) (r : Rule) (e : Entry) (slots : List Slot)
    → premises_of supports r e ≡ Some slots → applies supports r e ≡ true
applies_from_premises supports r e slots h =
    (cond_some (applies supports r e) (premises_at supports r e) slots h).0

-- so it is defined there, and they are those of the definition
pub premises-defined : (supports : List Support) (r : Rule) (e : Entry) (slots : List Slot)
    → premises_of supports r e ≡ Some slots
    → IsDefined (parts_over supports r) e × (premises_at supports r e ≡ slots)
premises-defined supports r e slots h = (
  defined (parts_over supports r) e (applies_from_premises supports r e slots h),
  (cond_some (applies supports r e) (premises_at supports r e) slots h).1,
)

-- an option is there where a test lets it through and it was there
let_through : {X : Type 0} (b : Bool) (o : Option X) (x : X) → (if b then o else None) ≡ Some x
    → (b ≡ true) × (o ≡ Some x)
let_through true o x h = (refl, h)
let_through false o x h = absurd (none-some x h)

-- where it gives a value it applies
pub applies_from_value : (supports : List Support) (r : Rule) (e : Entry) (vs : List ℕ) (v : ℕ)
    → value_of supports r e vs ≡ Some v → applies supports r e ≡ true
applies_from_value supports r e vs v h =
    (let_through (applies supports r e) (within_limit (rule_side r) ((parts_over supports r).number e vs)) v h).0

-- and that is its number within the limits of a bound
pub value-given : (supports : List Support) (r : Rule) (e : Entry) (vs : List ℕ) (v : ℕ)
    → value_of supports r e vs ≡ Some v
    → within_limit (rule_side r) ((parts_over supports r).number e vs) ≡ Some v
value-given supports r e vs v h =
    (let_through (applies supports r e) (within_limit (rule_side r) ((parts_over supports r).number e vs)) v h).1

-- a value comes only where it has premises
pub value-premises : (supports : List Support) (r : Rule) (e : Entry) (vs : List ℕ)
    → IsSome (value_of supports r e vs) → IsSome (premises_of supports r e)
value-premises supports r e vs some = go (applies supports r e) some
  where
    go : (b : Bool) → IsSome (if b then within_limit (rule_side r) ((parts_over supports r).number e vs) else None)
        → IsSome (if b then Some (premises_at supports r e) else None)
    go true h = refl
    go false h = absurd (false≢true h)

-- where it applies its value is its number within the limits
pub value_where_applies : (supports : List Support) (r : Rule) (e : Entry) (vs : List ℕ) → applies supports r e ≡ true
    → value_of supports r e vs ≡ within_limit (rule_side r) ((parts_over supports r).number e vs)
value_where_applies supports r e vs h =
    ap (λ (b : Bool). if b then within_limit (rule_side r) ((parts_over supports r).number e vs) else None) h

-- the number x whose bound within the limits is v: x, from below at most the greatest bound, from above cut there
pub record IsLimitOf (side : Side) (o : Option ℕ) (x v : ℕ) : Type 0 where
  pub number : o ≡ Some x
  pub least : v ≡ min x MAX_BOUND
  pub whole : side ≡ Lower → x ≤ MAX_BOUND

-- a number within the limits
pub limit_of : (side : Side) (o : Option ℕ) (v : ℕ) → within_limit side o ≡ Some v → (x : ℕ) × IsLimitOf side o x v
limit_of side None v h = absurd (none-some v h)
limit_of Lower (Some x) v h =
    let both = cond_some (nat_le x MAX_BOUND) x v h in
    let few = leb-true x MAX_BOUND both.0 in
    (x, record { number = refl; least = omega (arith, both.1); whole = λ s. few })
limit_of Upper (Some x) v h =
    (x, record { number = refl; least = sym (same_Some (min x MAX_BOUND) v h); whole = λ s. absurd cc })

-- a number not above the greatest bound is within the limits, from above each
pub limit_from : (side : Side) (x : ℕ) → (side ≡ Lower → x ≤ MAX_BOUND)
    → within_limit side (Some x) ≡ Some (min x MAX_BOUND)
limit_from Lower x few =
    let h = few refl in
    let same : x ≡ min x MAX_BOUND = omega arith in
    rw (le-leb x MAX_BOUND h) (ap Some same)
limit_from Upper x few = refl

-- the support that a rule names stands where all do
pub cited-stands : (supports : List Support) (r : Rule) → AllStand supports → ForSome (cited supports r) Stands
cited-stands supports r stand = go (named_place r)
  where
    go : (place : Option ℕ) → ForSome (support_at supports place) Stands
    go None = λ s h. absurd (none-some s h)
    go (Some place) = at_place Stands supports place stand

-- what a rule that is defined rests on is in the table, at each place
pub entries_at : (es : List Entry) (j : ℕ) (f : Entry) → are_entries es ≡ true → slice_get es j ≡ Some f → IsEntry f
entries_at [] j f h at = absurd (none-some f at)
entries_at (e ∷ es) zero f h at =
    subst IsEntry (same_Some e f at) (and_parts (is_entry e) (are_entries es) h).0
entries_at (e ∷ es) (suc j) f h at = entries_at es j f (and_parts (is_entry e) (are_entries es) h).1 at

pub entry_at : (p : RuleParts) (e : Entry) (j : ℕ) (f : Entry) → is_defined p e ≡ true → slice_get (p.rests_on e) j ≡ Some f
    → IsEntry f
entry_at p e j f h at = entries_at (p.rests_on e) j f (defined p e h).premises at

-- the entries on which a rule is defined are those of the definition
pub defined_entries : (supports : List Support) (r : Rule) (e : Entry) (o : Option Entries) (es : Entries)
    → option_map listed o ≡ (if applies supports r e then Some ((parts_over supports r).rests_on e) else None) → o ≡ Some es
    → (applies supports r e ≡ true) × ((parts_over supports r).rests_on e ≡ listed es)
defined_entries supports r e o es h is =
    cond_some (applies supports r e) ((parts_over supports r).rests_on e) (listed es) (sym h ∙ ap (option_map listed) is)

-- the premise at a place, by the entry there
pub premise-given : (supports : List Support) (r : Rule) (e : Entry) (j : ℕ) (f : Entry) → applies supports r e ≡ true
    → slice_get ((parts_over supports r).rests_on e) j ≡ Some f → premise_of supports r e j ≡ Some (rule_side r, f)
premise-given supports r e j f defined at =
    let on : Entry → Slot = λ g. (rule_side r, g) in
    ap (λ (b : Bool). if b then slice_get (premises_at supports r e) j else None) defined
    ∙ slice_get-map on ((parts_over supports r).rests_on e) j ∙ ap (option_map on) at

-- none where it rests on no entry at the place
pub premise-none : (supports : List Support) (r : Rule) (e : Entry) (j : ℕ) → applies supports r e ≡ true
    → slice_get ((parts_over supports r).rests_on e) j ≡ None → premise_of supports r e j ≡ None
premise-none supports r e j defined at =
    let on : Entry → Slot = λ g. (rule_side r, g) in
    ap (λ (b : Bool). if b then slice_get (premises_at supports r e) j else None) defined
    ∙ slice_get-map on ((parts_over supports r).rests_on e) j ∙ ap (option_map on) at

-- as many premises as it rests on entries
pub count-given : (supports : List Support) (r : Rule) (e : Entry) → applies supports r e ≡ true
    → count_of supports r e ≡ Some (length ((parts_over supports r).rests_on e))
count-given supports r e defined =
    let on : Entry → Slot = λ g. (rule_side r, g) in
    ap (λ (b : Bool). if b then Some (length (premises_at supports r e)) else None) defined
    ∙ ap Some (length-map ((parts_over supports r).rests_on e) on)
