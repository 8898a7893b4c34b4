-- Which rules rest on an entry, and where.
use Rattle.std.proofs.Common.{◌≡◌, ℕ, List, [], Contains, Some, None, true, refl, subst, ◌∙◌, inl, inr, ◌⊎◌}
use Rattle.std.specs.Prelude.{Bool, false, Option, slice_get}
use Rattle.ct_words.specs.declared.claim.Side.TheVariants.{Upper}
use Rattle.ct_words.specs.declared.entry.Entry.{Entry}
use Rattle.ct_rule_parts.specs.declared.support.Support.{Support}
use Rattle.ct_rule_parts.specs.Parts.{RuleParts}
use Rattle.ct_rule_parts.proofs.Lawful.{defined_condition}
use Rattle.ct_rule_parts.proofs.PlainEntries.{no_item}
use Rattle.ct_rules.specs.declared.rule.Rule.{Rule}
use Rattle.ct_rules.specs.declared.rule.Rule.TheVariants.{L11, M9}
use Rattle.ct_rules.specs.Rule.{row_of, is_alone, is_by_weight, named_place, cited, parts_over, rule_side, applies}
use Rattle.ct_rules.specs.Inside.RestedOn.{rested_on_by}
use Rattle.ct_rules.specs.Listing.{rules_alone}
use Rattle.ct_offers.specs.Inside.Pulled.{given_rule}
use Rattle.ct_offers.proofs.BoundingRules.{bounding-bound, bounding-odd, bounding-local}
use Rattle.ct_rules.proofs.RestedRows.{leads_back}
use Rattle.ct_rules.proofs.LawfulRows.{alone-parts, alone_at_rested, not_alone, supported-rests}

-- an entry that rests on another by a rule does so by one alone, and is among those that it names, lays words side by side, leads from
-- entries with weight to those without, or does so by a dual
pub record RestsAlone (r : Rule) (f e : Entry) : Type 0 where
  pub alone : is_alone r ≡ true
  pub listed : Contains (rules_alone (rule_side r, f)) r
  pub among : Contains (rested_on_by r f) e

-- the three others
abbrev pub IsOtherRule : List Support → Rule → Entry → Type 0
IsOtherRule supports r e =
    ((m : ℕ) × (c : ℕ) × (r ≡ L11 m c)) ⊎ ((is_by_weight r ≡ true) ⊎ ((place : ℕ) × (r ≡ given_rule (slice_get supports place) (Upper, e) place)))

-- a sum class rests on nothing
class_rests : (supports : List Support) (r : Rule) (k : ℕ) (e f : Entry) → r ≡ M9 k → Contains ((parts_over supports r).rests_on e) f
    → Contains [] f
unfolding row_of
class_rests supports r k e f same rests = subst (λ (q : Rule). Contains ((parts_over supports q).rests_on e) f) same rests

pub rests_on-cases : (supports : List Support) (r : Rule) (f e : Entry) → applies supports r e ≡ true
    → Contains ((parts_over supports r).rests_on e) f → RestsAlone r f e ⊎ IsOtherRule supports r e
rests_on-cases supports r f e defined rests = by_place (named_place r) refl
  where
    by_itself_or_numbers : named_place r ≡ None → (b : Bool) → is_alone r ≡ b → RestsAlone r f e ⊎ IsOtherRule supports r e
    by_itself_or_numbers none true alone =
        let same = alone-parts r supports alone in
        inl (record {
          alone = alone;
          listed =
              alone_at_rested r e f alone
              (subst (λ (p : RuleParts). p.condition e ≡ true) same (defined_condition (parts_over supports r) e defined))
              (subst (λ (p : RuleParts). Contains (p.rests_on e) f) same rests);
          among = leads_back r (cited supports r) e f defined rests;
        })
    by_itself_or_numbers none false alone = elim (not_alone r none alone) [
      | inl sum ↦ inr (inl sum)
      | inr (inl class) ↦
          no_item (RestsAlone r f e ⊎ IsOtherRule supports r e) f (class_rests supports r class.0 e f class.1 rests)
      | inr (inr by) ↦ inr (inr (inl by))
    ]

    by_place : (place : Option ℕ) → named_place r ≡ place → RestsAlone r f e ⊎ IsOtherRule supports r e
    by_place None none = by_itself_or_numbers none (is_alone r) refl
    by_place (Some place) named =
        elim (supported-rests r place (cited supports r) e named) [
          | inl nothing ↦ no_item (RestsAlone r f e ⊎ IsOtherRule supports r e) f (subst (λ es. Contains es f) nothing rests)
          | inr (inl by) ↦
              inr (inr (inr (place, by ∙ bounding-bound supports place e (subst (λ (q : Rule). applies supports q e ≡ true) by defined))))
          | inr (inr (inl by)) ↦
              inr (inr (inr (place, by ∙ bounding-odd supports place e (subst (λ (q : Rule). applies supports q e ≡ true) by defined))))
          | inr (inr (inr by)) ↦
              inr (inr (inr (place, by ∙ bounding-local supports place e (subst (λ (q : Rule). applies supports q e ≡ true) by defined))))
        ]
