-- What rests on a slot was tested, rule by rule.
use Rattle.std.proofs.Common.{◌≡◌, ℕ, List, Contains, All, true, sym, subst, ◌∙◌, inl, inr, ◌⊎◌}
use Rattle.std.specs.Prelude.{slice_get}
use Rattle.std.proofs.lemmas.List.Elements.{All-contains}
use Rattle.ct_words.specs.declared.claim.Side.{Side}
use Rattle.ct_words.specs.declared.claim.Side.TheVariants.{Upper}
use Rattle.ct_words.specs.declared.entry.Entry.{Entry}
use Rattle.ct_rule_parts.specs.declared.support.Support.{Support}
use Rattle.ct_rules.specs.declared.rule.Rule.{Rule}
use Rattle.ct_rules.specs.declared.rule.Rule.TheVariants.{L11}
use Rattle.ct_rules.specs.Listing.{rules_alone}
use Rattle.ct_rules.specs.Rule.{rule_side, applies, parts_over}
use Rattle.ct_slots.specs.Worklist.{WorkValue}
use Rattle.ct_offers.specs.Inside.Marking.{IsTestedAt, IsTestedFrom, AreTestedByWeight, AreTestedFromDuals, AreTested}
use Rattle.ct_offers.proofs.BoundingRules.{given_side}
use Rattle.ct_offers.proofs.DualLemmas.{tested_from_duals}
use Rattle.ct_offers.proofs.DependentLemmas.{RestsAlone, IsOtherRule, rests_on-cases}

-- all that rests on a slot was tested, where this holds by rule
pub tested_by_rules : (supports : List Support) (bounds : List ℕ) (work : WorkValue) (side : Side) (e : Entry)
    → All (IsTestedFrom supports bounds work e) (rules_alone (side, e))
    → AreTestedByWeight supports bounds work (side, e)
    → ((m c : ℕ) (f : Entry) → rule_side (L11 m c) ≡ side → applies supports (L11 m c) f ≡ true
    → Contains ((parts_over supports (L11 m c)).rests_on f) e → IsTestedAt supports bounds work (L11 m c) f)
    → (side ≡ Upper → AreTestedFromDuals supports bounds work e)
    → AreTested supports bounds work (side, e)
tested_by_rules supports bounds work side e alone by_weight sums duals r f same defined rests = go (rests_on-cases supports r e f defined rests)
  where
    go : RestsAlone r e f ⊎ IsOtherRule supports r f → IsTestedAt supports bounds work r f
    go (inl is) =
        All-contains (IsTestedFrom supports bounds work e) (rules_alone (side, e)) r alone
        (subst (λ (s : Side). Contains (rules_alone (s, e)) r) same is.listed) f is.among
    go (inr (inr (inl by))) = by_weight r f by same defined rests
    go (inr (inr (inr (place, is)))) =
        subst (λ (q : Rule). IsTestedAt supports bounds work q f) (sym is)
        (tested_from_duals supports bounds work e f place
        (duals (sym (subst (λ (q : Rule). rule_side q ≡ side) is same) ∙ given_side (slice_get supports place) f place))
        (subst (λ (q : Rule). applies supports q f ≡ true) is defined)
        (subst (λ (q : Rule). Contains ((parts_over supports q).rests_on f) e) is rests))
    go (inr (inl (m, c, is))) =
        subst (λ (q : Rule). IsTestedAt supports bounds work q f) (sym is)
        (sums m c f (subst (λ (q : Rule). rule_side q ≡ side) is same)
        (subst (λ (q : Rule). applies supports q f ≡ true) is defined)
        (subst (λ (q : Rule). Contains ((parts_over supports q).rests_on f) e) is rests))
