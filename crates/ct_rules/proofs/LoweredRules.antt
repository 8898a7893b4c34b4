-- Rules over the supports that are left: each names the support that it named, and says the same of it.
use Rattle.std.proofs.Common.{◌≡◌, ℕ, List, Option, Some, None, true, false, slice_get, refl, sym, ap, ap₂, subst, ◌∙◌}
use Rattle.std.specs.Prelude.{if◌then◌else◌}
use Rattle.std.proofs.lemmas.Bool.{false≢true}
use Rattle.ct_words.specs.declared.entry.Entry.{Entry}
use Rattle.ct_words.specs.declared.claim.Side.{Side}
use Rattle.ct_rule_parts.specs.declared.support.Support.{Support}
use Rattle.ct_rule_parts.specs.Parts.{RuleParts, is_defined, slots_on, within_limit}
use Rattle.ct_rules.specs.declared.rule.Rule.{Rule}
use Rattle.ct_rules.specs.Rule.{rule_side, named_place, with_place, support_at, cited, parts_of, parts_over, applies, premises_of, value_of}
use Rattle.ct_rules.proofs.Applied.{defined}
use Rattle.ct_rules.proofs.LawfulRows.{needs_support, named_place-placed, parts_of-placed}
use Rattle.ct_rules.specs.Removal.{Places, without, lowered_place, names_one, lowered_by, lowered}
use Rattle.ct_rules.proofs.WithoutLemmas.{was_at, slice_get-without}

-- two rules say the same of each support
abbrev pub IsAlike : Rule → Rule → Type 0
IsAlike r q = (c : Option Support) → parts_of r c ≡ parts_of q c

pub alike-side : (r q : Rule) → IsAlike r q → rule_side r ≡ rule_side q
alike-side r q alike = ap (λ (p : RuleParts). p.side) (alike None)

-- where they also name the same support, they are made of the same
parts_over-alike : (supports others : List Support) (r q : Rule) → IsAlike r q → cited supports r ≡ cited others q
    → parts_over supports r ≡ parts_over others q
parts_over-alike supports others r q alike same = ap (parts_of r) same ∙ alike (cited others q)

-- they rest on the same
pub premises_of-alike : (supports others : List Support) (r q : Rule) (e : Entry) → IsAlike r q
    → cited supports r ≡ cited others q → premises_of supports r e ≡ premises_of others q e
premises_of-alike supports others r q e alike same =
    ap₂ (λ (p : RuleParts) (side : Side). if is_defined p e then Some (slots_on side (p.rests_on e)) else None)
    (parts_over-alike supports others r q alike same) (alike-side r q alike)

-- and give the same
pub value_of-alike : (supports others : List Support) (r q : Rule) (e : Entry) (vs : List ℕ) → IsAlike r q
    → cited supports r ≡ cited others q → value_of supports r e vs ≡ value_of others q e vs
value_of-alike supports others r q e vs alike same =
    ap₂ (λ (p : RuleParts) (side : Side). if is_defined p e then within_limit side (p.number e vs) else None)
    (parts_over-alike supports others r q alike same) (alike-side r q alike)

-- a rule that is defined and names a support names one that is there
pub support_there : (supports : List Support) (r : Rule) (place : ℕ) (e : Entry) → applies supports r e ≡ true
    → named_place r ≡ Some place → (support : Support) × (slice_get supports place ≡ Some support)
support_there supports r place e h names = go (slice_get supports place) refl
  where
    go : (c : Option Support) → slice_get supports place ≡ c
        → (support : Support) × (slice_get supports place ≡ Some support)
    go (Some support) at = (support, at)
    go None at =
        let none : cited supports r ≡ None = ap (support_at supports) names ∙ at in
        absurd (false≢true
        (sym (needs_support r place e names)
        ∙ subst (λ (c : Option Support). (parts_of r c).condition e ≡ true) none
        (defined (parts_over supports r) e h).condition))

-- a lowered rule says what the rule said
pub IsAlike-lowered : (gone : Places) (r : Rule) → IsAlike (lowered gone r) r
IsAlike-lowered gone r c = go (named_place r)
  where
    go : (place : Option ℕ) → parts_of (lowered_by gone r place) c ≡ parts_of r c
    go None = refl
    go (Some place) = parts_of-placed r (lowered_place gone place) c

-- and names the support that it named
pub cited-lowered : (gone : Places) (supports : List Support) (r : Rule) (e : Entry) → applies supports r e ≡ true
    → names_one gone (named_place r) ≡ false → cited (without gone supports) (lowered gone r) ≡ cited supports r
cited-lowered gone supports r e h apart = go (named_place r) refl apart
  where
    go : (place : Option ℕ) → named_place r ≡ place → names_one gone place ≡ false
        → cited (without gone supports) (lowered_by gone r place) ≡ support_at supports place
    go None names stays = ap (support_at (without gone supports)) names
    go (Some place) names stays =
        let there = support_there supports r place e h names in
        ap (support_at (without gone supports)) (named_place-placed r place (lowered_place gone place) names)
        ∙ slice_get-without gone supports place there.0 stays there.1 ∙ sym there.1

-- a rule over the supports that are left, as it was over all
pub record WasRule (gone : Places) (supports : List Support) (q : Rule) : Type 0 where
  pub rule : Rule
  pub stays : names_one gone (named_place rule) ≡ false
  pub alike : IsAlike rule q
  pub cites : cited supports rule ≡ cited (without gone supports) q

pub was_rule : (gone : Places) (supports : List Support) (q : Rule) (e : Entry) → applies (without gone supports) q e ≡ true
    → WasRule gone supports q
was_rule gone supports q e h = go (named_place q) refl
  where
    go : (place : Option ℕ) → named_place q ≡ place → WasRule gone supports q
    go None names = record {
      rule = q;
      stays = ap (names_one gone) names;
      alike = λ c. refl;
      cites = ap (support_at supports) names ∙ sym (ap (support_at (without gone supports)) names);
    }
    go (Some place) names =
        let there = support_there (without gone supports) q place e h names in
        let was = was_at gone supports place there.0 there.1 in
        record {
          rule = with_place q was.place;
          stays = ap (names_one gone) (named_place-placed q place was.place names) ∙ was.stays;
          alike = parts_of-placed q was.place;
          cites =
              ap (support_at supports) (named_place-placed q place was.place names) ∙ was.there
              ∙ sym (ap (support_at (without gone supports)) names ∙ there.1);
        }
