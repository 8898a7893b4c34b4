-- What the laws of derivations and every table rest on: six laws of the rules. Nothing above this file looks into one.
use Rattle.std.specs.Prelude.{◌≡◌, ℕ, ◌≤◌, List, length, map, All, Option, Some, None, IfSome}
use Rattle.std.specs.Option.{ForSome}
use Rattle.std.proofs.Common.{subst, sym, ap, ◌∙◌}
use Rattle.std.proofs.lemmas.List.{length-map}
use Rattle.ct_words.specs.declared.limits.TheConstants.{MAX_N}
use Rattle.ct_words.specs.declared.entry.Entry.{Entry}
use Rattle.ct_words.specs.declared.claim.Claim.{Claim}
use Rattle.ct_words.specs.Claim.{IsTrueClaim}
use Rattle.ct_words.specs.Entry.{IsEntry}
use Rattle.ct_rule_parts.specs.declared.support.Support.{Support}
use Rattle.ct_rule_parts.specs.Slot.{Slot, slot_of, claim_at, IsNoBetter, AreNoBetter}
use Rattle.ct_rule_parts.specs.Support.{Stands}
use Rattle.ct_rules.specs.declared.rule.Rule.{Rule}
use Rattle.ct_rules.specs.Rule.{rule_side, cited, parts_over, premises_of, value_of}
use Rattle.ct_rules.proofs.Applied.{premises-defined, slots_in_table, slots_have_side, value-given, limit_of}
use Rattle.ct_rules.proofs.LawfulRows.{lawful}
use Rattle.ct_rules.proofs.RuleValues.{number-sound, number-le, claim_from_number, value-no_worse}

-- a rule that is defined at an entry is defined at an entry of the table
pub rule_entry : (supports : List Support) (r : Rule) (e : Entry) (slots : List Slot)
    → premises_of supports r e ≡ Some slots → IsEntry e
rule_entry supports r e slots h = let known = premises-defined supports r e slots h in known.0.entry

-- what a rule rests on are entries of the table
pub premises_in_table : (supports : List Support) (r : Rule) (e : Entry) (slots : List Slot) →
    premises_of supports r e ≡ Some slots → All (λ s. IsEntry s.1) slots
premises_in_table supports r e slots h =
    let known = premises-defined supports r e slots h in
    subst (λ these. All (λ s. IsEntry s.1) these) known.1
    (slots_in_table (rule_side r) ((parts_over supports r).rests_on e) known.0.premises)

-- the premises of a rule have its side
pub premises_on_side : (supports : List Support) (r : Rule) (e : Entry) (slots : List Slot) →
    premises_of supports r e ≡ Some slots → All (λ s. s.0 ≡ rule_side r) slots
premises_on_side supports r e slots h =
    let known = premises-defined supports r e slots h in
    subst (λ these. All (λ s. s.0 ≡ rule_side r) these) known.1
    (slots_have_side (rule_side r) ((parts_over supports r).rests_on e))

-- a rule rests on few slots, where the support that it names stands
pub premises_are_few : (supports : List Support) (r : Rule) (e : Entry) (slots : List Slot) → ForSome (cited supports r) Stands →
    premises_of supports r e ≡ Some slots → length slots ≤ MAX_N
premises_are_few supports r e slots stand h =
    let known = premises-defined supports r e slots h in
    let entries = (parts_over supports r).rests_on e in
    subst (λ (these : List Slot). length these ≤ MAX_N) known.1
    (subst (λ n. n ≤ MAX_N) (sym (length-map entries (λ f. (rule_side r, f))))
    ((lawful r (cited supports r)).few e stand known.0.entry))

-- a rule gives a true claim where its premises are true
pub value_is_sound : (supports : List Support) (r : Rule) (e : Entry) (claims : List Claim) (v : ℕ)
    → ForSome (cited supports r) Stands →
    premises_of supports r e ≡ Some (map slot_of claims) → All IsTrueClaim claims →
    value_of supports r e (map (λ c. c.value) claims) ≡ Some v → IsTrueClaim (claim_at (rule_side r, e) v)
value_is_sound supports r e claims v stand premises true_claims value =
    let values = map (λ c. c.value) claims in
    let known = premises-defined supports r e (map slot_of claims) premises in
    let number = limit_of (rule_side r) ((parts_over supports r).number e values) v
    (value-given supports r e values v value) in
    claim_from_number (rule_side r) e number.0 v known.0.entry
    (number-sound supports r e claims number.0 stand known.0 known.1 true_claims number.1.number)
    number.1.least

-- so is a value under another name, from values that are theirs
pub sound_value : (supports : List Support) (r : Rule) (e : Entry) (vs : List ℕ) (o : Option ℕ) → o ≡ value_of supports r e vs
    → (claims : List Claim) → ForSome (cited supports r) Stands → premises_of supports r e ≡ Some (map slot_of claims)
    → vs ≡ map (λ c. c.value) claims → All IsTrueClaim claims → IfSome o (λ v. IsTrueClaim (claim_at (rule_side r, e) v))
sound_value supports r e vs None is claims stand premises values true_claims = tt
sound_value supports r e vs (Some v) is claims stand premises values true_claims =
    value_is_sound supports r e claims v stand premises true_claims (sym (is ∙ ap (value_of supports r e) values))

-- better true premises give a value that is no worse
pub value_is_monotone : (supports : List Support) (r : Rule) (e : Entry) (claims : List Claim) (us : List ℕ) (u : ℕ) →
    ForSome (cited supports r) Stands → premises_of supports r e ≡ Some (map slot_of claims) → All IsTrueClaim claims →
    AreNoBetter (rule_side r) us (map (λ c. c.value) claims) → value_of supports r e us ≡ Some u →
    (v : ℕ) × (value_of supports r e (map (λ c. c.value) claims) ≡ Some v) × IsNoBetter (rule_side r) u v
value_is_monotone supports r e claims us u stand premises true_claims worse value =
    let values = map (λ c. c.value) claims in
    let known = premises-defined supports r e (map slot_of claims) premises in
    value-no_worse supports r e us values u worse value (λ y is lower.
    number-le (rule_side r) e y known.0.entry
    (number-sound supports r e claims y stand known.0 known.1 true_claims is)
    lower)
