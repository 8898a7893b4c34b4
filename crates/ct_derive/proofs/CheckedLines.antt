-- A line without a fault follows from those before it, and one that follows has no fault.
use Rattle.std.proofs.Common.{◌≡◌, ℕ, Bool, true, false, List, map, Option, Some, None, refl, sym, ap, ◌∙◌, arith, suc, ◌-◌, ◌++◌, ◌∷◌, [], ap₂, subst}
use Rattle.std.specs.Prelude.{◌==◌, if◌then◌else◌}
use Rattle.std.proofs.lemmas.Bool.Decides.{nat_tests}
use Rattle.std.proofs.lemmas.Option.{none-some, same_Some, cond_some}
use Rattle.ct_words.specs.declared.entry.Entry.{Entry}
use Rattle.ct_words.specs.declared.claim.Claim.{Claim}
use Rattle.ct_rule_parts.specs.declared.support.Support.{Support}
use Rattle.ct_rule_parts.specs.Slot.{slot_of}
use Rattle.ct_rules.specs.declared.rule.Rule.{Rule}
use Rattle.ct_rules.specs.Rule.{rule_side, applies, parts_over, premises_at, value_of}
use Rattle.ct_rules.specs.Derivation.{LineValue, claims_at, Follows, IsDerivation}
use Rattle.ct_rules.proofs.Applied.{applies_from_premises}
use Rattle.ct_derive.specs.declared.check.LineFault.TheVariants.{NoRule, NoPremise, OtherValue}
use Rattle.ct_rules.proofs.Derivations.{derivation-push}
use Rattle.ct_derive.specs.Check.{values_numbered, value_fault, premise_fault, line_fault, numbers_at, line_by}
use Rattle.ct_derive.proofs.NumberedLines.{named_from_values, values_from_named}

same_number : (m n : ℕ) → (m == n) ≡ true → m ≡ n
same_number m n h = grind (arith, nat_tests)

number-self : (n : ℕ) → (n == n) ≡ true
number-self n = grind (arith, nat_tests)

-- the value is the one that is stated
right_value : (stated : ℕ) (given : Option ℕ) → value_fault stated given ≡ None → given ≡ Some stated
right_value stated None h = absurd (none-some NoRule (sym h))
right_value stated (Some v) h = go (stated == v) refl h
  where
    go : (b : Bool) → (stated == v) ≡ b → (if stated == v then None else Some (OtherValue stated v)) ≡ None → Some v ≡ Some stated
    go true is none = ap Some (sym (same_number stated v is))
    go false is none =
        absurd (none-some (OtherValue stated v)
        (sym none ∙ ap (λ (b : Bool). if b then None else Some (OtherValue stated v)) is))

-- a line that follows, and the places that its numbers say
pub record FollowsBy (supports : List Support) (before : List LineValue) (c : Claim) (r : Rule) (numbers : List ℕ) : Type 0 where
  pub places : List ℕ
  pub numbered : numbers ≡ numbers_at places
  pub follows : Follows supports before (record { claim = c; rule = r; from = places })

pub follows_without_fault : (supports : List Support) (before : List LineValue) (c : Claim) (r : Rule) (numbers : List ℕ)
    → c.side ≡ rule_side r → line_fault supports before c r numbers ≡ None → FollowsBy supports before c r numbers
follows_without_fault supports before c r numbers side h = go (applies supports r c.entry) refl
  where
    es : List Entry
    es = (parts_over supports r).rests_on c.entry

    named : applies supports r c.entry ≡ true → (values : Option (List ℕ))
        → values_numbered (rule_side r) before ((parts_over supports r).rests_on c.entry) numbers ≡ values
        → premise_fault supports c r values ≡ None → FollowsBy supports before c r numbers
    named applied None is none = absurd (none-some NoPremise (sym none))
    named applied (Some vs) is none =
        let claims = named_from_values (rule_side r) before ((parts_over supports r).rests_on c.entry) numbers vs is in
        record {
          places = claims.places;
          numbered = claims.numbered;
          follows = record {
            earlier = claims.within;
            side = side;
            premises =
                ap (λ (b : Bool). if b then Some (premises_at supports r c.entry) else None) applied
                ∙ ap Some (sym claims.slots);
            value = ap (value_of supports r c.entry) claims.same ∙ right_value c.value (value_of supports r c.entry vs) none;
          };
        }

    go : (b : Bool) → applies supports r c.entry ≡ b → FollowsBy supports before c r numbers
    go false is =
        absurd (none-some NoRule
        (sym h ∙ ap
        (λ (b : Bool). if b then premise_fault supports c r (values_numbered (rule_side r) before ((parts_over supports r).rests_on c.entry) numbers) else Some NoRule)
        is))
    go true is =
        named is (values_numbered (rule_side r) before ((parts_over supports r).rests_on c.entry) numbers) refl
        (sym (ap
        (λ (b : Bool). if b then premise_fault supports c r (values_numbered (rule_side r) before ((parts_over supports r).rests_on c.entry) numbers) else Some NoRule)
        is) ∙ h)

pub no_fault : (supports : List Support) (before : List LineValue) (line : LineValue) → Follows supports before line
    → line_fault supports before line.claim line.rule (numbers_at line.from) ≡ None
no_fault supports before line follows =
    let r = line.rule in
    let e = line.claim.entry in
    let claims = claims_at before line.from in
    let applied = applies_from_premises supports r e (map slot_of claims) follows.premises in
    let slots = (cond_some (applies supports r e) (premises_at supports r e) (map slot_of claims) follows.premises).1 in
    let values = values_from_named (rule_side r) before ((parts_over supports r).rests_on e) line.from follows.earlier (sym slots) in
    ap
    (λ (b : Bool). if b then premise_fault supports line.claim line.rule (values_numbered (rule_side line.rule) before ((parts_over supports line.rule).rests_on line.claim.entry) (numbers_at line.from)) else Some NoRule)
    applied
    ∙ ap (premise_fault supports line.claim r) values
    ∙ ap (value_fault line.claim.value) follows.value
    ∙ ap (λ (b : Bool). if b then None else Some (OtherValue line.claim.value line.claim.value)) (number-self line.claim.value)

-- numbers say their places
pub places_again : (places : List ℕ) → map (λ n. n - 1) (numbers_at places) ≡ places
places_again [] = refl
places_again (p ∷ places) =
    let less : suc p - 1 ≡ p = omega arith in
    ap₂ (λ (q : ℕ) (qs : List ℕ). q ∷ qs) less (places_again places)

-- lines that are a derivation stay one with a line that has no fault
pub derivation_by : (supports : List Support) (lines : List LineValue) (c : Claim) (r : Rule) (numbers : List ℕ)
    → c.side ≡ rule_side r → line_fault supports lines c r numbers ≡ None → IsDerivation supports lines
    → IsDerivation supports (lines ++ line_by c r numbers ∷ [])
derivation_by supports lines c r numbers side none derivation =
    let by = follows_without_fault supports lines c r numbers side none in
    let same : by.places ≡ map (λ n. n - 1) numbers =
    sym (ap (map (λ (n : ℕ). n - 1)) by.numbered ∙ places_again by.places) in
    derivation-push supports lines (line_by c r numbers) derivation
    (subst (λ (places : List ℕ). Follows supports lines (record { claim = c; rule = r; from = places })) same by.follows)

-- the fault where the rule is defined: that of the premises, or of the value
pub defined_fault : (supports : List Support) (before : List LineValue) (c : Claim) (r : Rule) (numbers : List ℕ) (entries : List Entry)
    (values : Option (List ℕ)) → Some entries ≡ (if applies supports r c.entry then Some ((parts_over supports r).rests_on c.entry) else None)
    → values ≡ values_numbered (rule_side r) before entries numbers → premise_fault supports c r values ≡ line_fault supports before c r numbers
defined_fault supports before c r numbers entries values defined are = go (applies supports r c.entry) defined
  where
    go : (b : Bool) → Some entries ≡ (if b then Some ((parts_over supports r).rests_on c.entry) else None) → premise_fault supports c r values
        ≡ (if b then premise_fault supports c r (values_numbered (rule_side r) before ((parts_over supports r).rests_on c.entry) numbers) else Some NoRule)
    go true is =
        ap (premise_fault supports c r)
        (are ∙ ap (λ (es : List Entry). values_numbered (rule_side r) before es numbers) (same_Some entries ((parts_over supports r).rests_on c.entry) is))
    go false is = absurd (none-some entries (sym is))

-- and where it is not
pub undefined_fault : (supports : List Support) (before : List LineValue) (c : Claim) (r : Rule) (numbers : List ℕ)
    → None ≡ (if applies supports r c.entry then Some ((parts_over supports r).rests_on c.entry) else None)
    → Some NoRule ≡ line_fault supports before c r numbers
undefined_fault supports before c r numbers undefined = go (applies supports r c.entry) undefined
  where
    go : (b : Bool) → None ≡ (if b then Some ((parts_over supports r).rests_on c.entry) else None)
        → Some NoRule
        ≡ (if b then premise_fault supports c r (values_numbered (rule_side r) before ((parts_over supports r).rests_on c.entry) numbers) else Some NoRule)
    go true is = absurd (none-some ((parts_over supports r).rests_on c.entry) is)
    go false is = refl
