-- Supports of which those of a set give nothing: which rules are still defined, and that what is left of them is closed and true as before.
use Rattle.std.proofs.Common.{◌≡◌, ℕ, zero, suc, List, [], ◌∷◌, length, map, Option, Some, None, option_map, Bool, true, false, slice_get, refl, sym, ap, subst, ◌∙◌}
use Rattle.std.proofs.lemmas.Bool.{false≢true}
use Rattle.std.proofs.lemmas.List.Elements.{All-cons, All-head, All-tail}
use Rattle.ct_words.specs.declared.claim.Side.{Side}
use Rattle.ct_words.specs.declared.entry.Entry.{Entry}
use Rattle.ct_rule_parts.specs.declared.support.Support.{Support}
use Rattle.ct_rule_parts.specs.Slot.{Slot, IsNoBetter}
use Rattle.ct_rule_parts.specs.Support.{Stands, AllStand}
use Rattle.ct_rules.specs.declared.rule.Rule.{Rule}
use Rattle.ct_rules.specs.Closed.{IsClosed}
use Rattle.ct_rules.specs.Rule.{named_place, support_at, cited, parts_of, parts_over, applies, premises_of, value_of}
use Rattle.ct_rules.proofs.Applied.{defined, applies_from_premises}
use Rattle.ct_rules.proofs.LawfulRows.{needs_support, needs_something}
use Rattle.ct_rules.specs.Removal.{Places, without, names_one, voided_by, voided}
use Rattle.ct_rules.proofs.LoweredRules.{alike-side, premises_of-alike, value_of-alike, was_rule}
use Rattle.ct_rules.proofs.WithoutLemmas.{All-without}

-- what stands at a place
pub slice_get-voided : (gone : Places) (supports : List Support) (p : ℕ)
    → slice_get (voided gone supports) p ≡ option_map (voided_by (gone p)) (slice_get supports p)
unfolding voided
slice_get-voided gone [] p = refl
slice_get-voided gone (support ∷ supports) zero = refl
slice_get-voided gone (support ∷ supports) (suc p) = slice_get-voided (λ q. gone (suc q)) supports p

stays_as_it_is : (o : Option Support) → option_map (voided_by false) o ≡ o
stays_as_it_is None = refl
stays_as_it_is (Some support) = refl

-- a rule that names none of the set names the same support
pub cited-voided : (gone : Places) (supports : List Support) (r : Rule) → names_one gone (named_place r) ≡ false
    → cited (voided gone supports) r ≡ cited supports r
cited-voided gone supports r apart = go (named_place r) apart
  where
    go : (place : Option ℕ) → names_one gone place ≡ false
        → support_at (voided gone supports) place ≡ support_at supports place
    go None stays = refl
    go (Some place) stays =
        slice_get-voided gone supports place
        ∙ ap (λ (b : Bool). option_map (voided_by b) (slice_get supports place)) stays
        ∙ stays_as_it_is (slice_get supports place)

-- a rule that is defined names none of the set
pub names_none : (gone : Places) (supports : List Support) (r : Rule) (e : Entry)
    → applies (voided gone supports) r e ≡ true → names_one gone (named_place r) ≡ false
names_none gone supports r e h = go (named_place r) refl
  where
    holds : (parts_over (voided gone supports) r).condition e ≡ true
    holds = (defined (parts_over (voided gone supports) r) e h).condition

    nothing : (place : ℕ) (o : Option Support) → named_place r ≡ Some place
        → cited (voided gone supports) r ≡ option_map (voided_by true) o → false ≡ true
    nothing place None names is =
        sym (needs_support r place e names) ∙ subst (λ (c : Option Support). (parts_of r c).condition e ≡ true) is holds
    nothing place (Some support) names is =
        sym (needs_something r place e names) ∙ subst (λ (c : Option Support). (parts_of r c).condition e ≡ true) is holds

    by_place : (place : ℕ) (b : Bool) → named_place r ≡ Some place → gone place ≡ b → b ≡ false
    by_place place false names is = refl
    by_place place true names is =
        absurd (false≢true (nothing place (slice_get supports place) names
        (ap (support_at (voided gone supports)) names ∙ slice_get-voided gone supports place
        ∙ ap (λ (b : Bool). option_map (voided_by b) (slice_get supports place)) is)))

    go : (place : Option ℕ) → named_place r ≡ place → names_one gone place ≡ false
    go None names = refl
    go (Some place) names = by_place place (gone place) names refl

-- such a rule rests on the same and gives the same as over all supports
pub premises_of-voided : (gone : Places) (supports : List Support) (r : Rule) (e : Entry)
    → names_one gone (named_place r) ≡ false → premises_of (voided gone supports) r e ≡ premises_of supports r e
premises_of-voided gone supports r e apart =
    premises_of-alike (voided gone supports) supports r r e (λ c. refl) (cited-voided gone supports r apart)

pub value_of-voided : (gone : Places) (supports : List Support) (r : Rule) (e : Entry) (vs : List ℕ)
    → names_one gone (named_place r) ≡ false → value_of (voided gone supports) r e vs ≡ value_of supports r e vs
value_of-voided gone supports r e vs apart =
    value_of-alike (voided gone supports) supports r r e vs (λ c. refl) (cited-voided gone supports r apart)

-- bounds that are closed stay so where some supports give nothing
pub IsClosed-voided : (gone : Places) (supports : List Support) (bounds : Slot → ℕ) → IsClosed supports bounds
    → IsClosed (voided gone supports) bounds
IsClosed-voided gone supports bounds closed r e slots v premises value =
    let apart = names_none gone supports r e (applies_from_premises (voided gone supports) r e slots premises) in
    closed r e slots v (sym (premises_of-voided gone supports r e apart) ∙ premises)
    (sym (value_of-voided gone supports r e (map bounds slots) apart) ∙ value)

-- and once these are out
pub IsClosed-without : (gone : Places) (supports : List Support) (bounds : Slot → ℕ)
    → IsClosed (voided gone supports) bounds → IsClosed (without gone supports) bounds
IsClosed-without gone supports bounds closed q e slots v premises value =
    let was = was_rule gone supports q e (applies_from_premises (without gone supports) q e slots premises) in
    let same = cited-voided gone supports was.rule was.stays ∙ was.cites in
    let before = premises_of-alike (voided gone supports) (without gone supports) was.rule q e was.alike same in
    let given = value_of-alike (voided gone supports) (without gone supports) was.rule q e (map bounds slots) was.alike same in
    subst (λ (side : Side). IsNoBetter side v (bounds (side, e))) (alike-side was.rule q was.alike)
    (closed was.rule e slots v (before ∙ premises) (given ∙ value))

-- supports that stand do so where some give nothing, and once these are out
pub AllStand-voided : (gone : Places) (supports : List Support) → AllStand supports → AllStand (voided gone supports)
unfolding voided
AllStand-voided gone [] stand = stand
AllStand-voided gone (support ∷ supports) stand =
    All-cons Stands (voided_by (gone 0) support) (voided (λ p. gone (suc p)) supports)
    (here (gone 0) (All-head Stands support supports stand))
    (AllStand-voided (λ p. gone (suc p)) supports (All-tail Stands support supports stand))
  where
    here : (b : Bool) → Stands support → Stands (voided_by b support)
    here true h = tt
    here false h = h

pub AllStand-without : (gone : Places) (supports : List Support) → AllStand supports → AllStand (without gone supports)
AllStand-without gone supports stand = All-without Stands gone supports stand

pub length-voided : (gone : Places) (supports : List Support) → length (voided gone supports) ≡ length supports
unfolding voided
length-voided gone [] = refl
length-voided gone (support ∷ supports) = ap suc (length-voided (λ p. gone (suc p)) supports)
