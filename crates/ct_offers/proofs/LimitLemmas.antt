-- What a rule gives over true bounds is true, so it is no better than the bound of the other side.
use Rattle.std.proofs.Common.{◌≡◌, ℕ, List, Some, refl, sym, ap, subst, ◌∙◌, arith}
use Rattle.std.specs.Prelude.{if◌then◌else◌, None}
use Rattle.ct_words.specs.declared.claim.Side.{Side}
use Rattle.ct_words.specs.declared.claim.Side.TheVariants.{Lower, Upper}
use Rattle.ct_words.specs.declared.entry.Entry.{Entry}
use Rattle.ct_words.specs.Claim.{IsTrueClaim}
use Rattle.ct_words.specs.Entry.{IsEntry}
use Rattle.ct_rule_parts.specs.declared.support.Support.{Support}
use Rattle.ct_rule_parts.specs.Slot.{Slot, claim_at}
use Rattle.ct_rule_parts.specs.Support.{AllStand}
use Rattle.ct_rules.specs.declared.rule.Rule.{Rule}
use Rattle.ct_rules.specs.Closed.{AreTrue, IsSatisfied}
use Rattle.ct_rules.specs.Rule.{rule_side, premises_at, premises_of}
use Rattle.ct_rules.proofs.Applied.{cited-stands}
use Rattle.ct_rules.proofs.ClosedBounds.{claims_of, slots_of_claims, values_of_claims, All-claims_of}
use Rattle.ct_rules.proofs.RuleLaws.{premises_in_table, value_is_sound}
use Rattle.ct_offers.specs.Offers.{value_over, IsLimit, IsWithin}
use Rattle.ct_offers.proofs.PullingLemmas.{over-applies, over-value}
use Rattle.ct_offers.proofs.SatisfiedLemmas.{satisfied_within}

-- the claim of what it gives
true_value : (supports : List Support) (f : Slot → ℕ) (r : Rule) (e : Entry) (v : ℕ) → AllStand supports → AreTrue f
    → value_over supports f r e ≡ Some v → IsTrueClaim (claim_at (rule_side r, e) v)
true_value supports f r e v stand truth value =
    let slots = premises_at supports r e in
    let premises : premises_of supports r e ≡ Some slots =
    ap (λ b. if b then Some slots else None) (over-applies supports f r e v value) in
    value_is_sound supports r e (claims_of f slots) v (cited-stands supports r stand)
    (premises ∙ ap Some (sym (slots_of_claims f slots)))
    (All-claims_of IsTrueClaim f slots (premises_in_table supports r e slots premises) truth)
    (rw values_of_claims (over-value supports f r e v value))

-- a lower one is at most the upper bound, and an upper one at least the lower
pub limit_below : (supports : List Support) (f : Slot → ℕ) (e : Entry) → AllStand supports → AreTrue f → IsEntry e
    → IsLimit supports f (Lower, e) (f (Upper, e))
limit_below supports f e stand truth entry r side v value =
    let own = true_value supports f r e v stand truth value in
    let code = (subst (λ (s : Side). IsTrueClaim (claim_at (s, e) v)) side own).truth in
    let most = (truth (Upper, e) entry).truth code.0 code.1 in
    let size = code.2 in
    omega arith

pub limit_above : (supports : List Support) (f : Slot → ℕ) (e : Entry) → AllStand supports → AreTrue f → IsEntry e
    → IsLimit supports f (Upper, e) (f (Lower, e))
limit_above supports f e stand truth entry r side v value =
    let own = true_value supports f r e v stand truth value in
    let code = (truth (Lower, e) entry).truth in
    let most = (subst (λ (s : Side). IsTrueClaim (claim_at (s, e) v)) side own).truth code.0 code.1 in
    let size = code.2 in
    omega arith

-- from one side to its name
pub limit_on : (supports : List Support) (f : Slot → ℕ) (side own : Side) (e : Entry) (limit : ℕ) → side ≡ own
    → IsLimit supports f (own, e) limit → IsLimit supports f (side, e) limit
limit_on supports f side own e limit same is = subst (λ (s : Side). IsLimit supports f (s, e) limit) (sym same) is

-- so no rule gives anything better than a bound that has reached it
pub at_limit : (supports : List Support) (f : Slot → ℕ) (s : Slot) (best limit : ℕ) → best ≡ limit → IsLimit supports f s limit
    → (r : Rule) → rule_side r ≡ s.0 → IsWithin supports f s best r
at_limit supports f s best limit reached is r side =
    subst (λ (b : ℕ). IsWithin supports f s b r) (sym reached) (is r side)

-- where both bounds are one, no rule gives anything better
pub settled_satisfied : (supports : List Support) (f : Slot → ℕ) (r : Rule) (e : Entry) → AllStand supports → AreTrue f → IsEntry e
    → f (Lower, e) ≡ f (Upper, e) → IsSatisfied supports f r e
settled_satisfied supports f r e stand truth entry same = satisfied_within supports f r e (go (rule_side r) refl)
  where
    go : (side : Side) → rule_side r ≡ side → IsWithin supports f (side, e) (f (side, e)) r
    go Lower own = at_limit supports f (Lower, e) (f (Lower, e)) (f (Upper, e)) same (limit_below supports f e stand truth entry) r own
    go Upper own = at_limit supports f (Upper, e) (f (Upper, e)) (f (Lower, e)) (sym same) (limit_above supports f e stand truth entry) r own
