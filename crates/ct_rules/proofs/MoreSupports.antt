-- Derivations over more supports: a rule that is defined over the first supports cites one of them, or none.
use Rattle.std.proofs.Common.{◌≡◌, ℕ, true, if◌then◌else◌, List, [], ◌∷◌, ◌++◌, take, map, slice_get, Option, Some, None, refl, sym, ap, subst, ◌∙◌}
use Rattle.std.proofs.lemmas.Bool.{false≢true}
use Rattle.std.proofs.lemmas.Option.{slice_get_within}
use Rattle.ct_words.specs.declared.entry.Entry.{Entry}
use Rattle.ct_words.specs.declared.claim.Claim.{Claim}
use Rattle.ct_rule_parts.specs.declared.support.Support.{Support}
use Rattle.ct_rule_parts.specs.Parts.{is_defined, slots_on, within_limit}
use Rattle.ct_rule_parts.specs.Slot.{Slot, slot_of, claim_at, IsNoBetter}
use Rattle.ct_rules.specs.declared.rule.Rule.{Rule}
use Rattle.ct_rules.specs.Rule.{rule_side, named_place, support_at, cited, parts_of, parts_over, applies, premises_of, value_of}
use Rattle.ct_rules.specs.Derivation.{LineValue, claims_at, Follows, IsDerivation, IsDerived, IsBest}
use Rattle.ct_rule_parts.proofs.Places.{slice_get-append_left}
use Rattle.ct_rules.proofs.LawfulRows.{needs_support}
pub use Rattle.ct_rules.proofs.Applied.{applies_from_premises}
use Rattle.ct_rules.proofs.Applied.{defined, applies_from_value}

-- a rule that is defined over the supports cites the same support over more
pub cited_over_more : (supports more : List Support) (r : Rule) (e : Entry) → applies supports r e ≡ true
    → cited (supports ++ more) r ≡ cited supports r
cited_over_more supports more r e h = go (named_place r) refl
  where
    there : (place : ℕ) (c : Option Support) → named_place r ≡ Some place → cited supports r ≡ c
        → slice_get supports place ≡ c → slice_get (supports ++ more) place ≡ slice_get supports place
    there place None names is at =
        let known = (defined (parts_over supports r) e h).condition in
        absurd (false≢true
        (sym (needs_support r place e names)
        ∙ subst (λ (c : Option Support). (parts_of r c).condition e ≡ true) is known))
    there place (Some support) names is at =
        slice_get-append_left supports more place (slice_get_within supports place support at)

    go : (place : Option ℕ) → named_place r ≡ place → support_at (supports ++ more) place ≡ support_at supports place
    go None names = refl
    go (Some place) names =
        there place (slice_get supports place) names (ap (support_at supports) names) refl

-- it rests on the same over more supports
pub premises_over_more : (supports more : List Support) (r : Rule) (e : Entry) (slots : List Slot)
    → premises_of supports r e ≡ Some slots
    → premises_of (supports ++ more) r e ≡ Some slots
premises_over_more supports more r e slots h =
    ap
    (λ (c : Option Support).
    if is_defined (parts_of r c) e then Some (slots_on (rule_side r) ((parts_of r c).rests_on e)) else None)
    (cited_over_more supports more r e (applies_from_premises supports r e slots h)) ∙ h

-- it gives the same value over more supports
pub value_over_more : (supports more : List Support) (r : Rule) (e : Entry) (vs : List ℕ) (v : ℕ)
    → value_of supports r e vs ≡ Some v
    → value_of (supports ++ more) r e vs ≡ Some v
value_over_more supports more r e vs v h =
    ap
    (λ (c : Option Support).
    if is_defined (parts_of r c) e then within_limit (rule_side r) ((parts_of r c).number e vs) else None)
    (cited_over_more supports more r e (applies_from_value supports r e vs v h)) ∙ h

-- a line that follows from others follows from them over more supports
pub follows_over_more : (supports more : List Support) (before : List LineValue) (line : LineValue)
    → Follows supports before line
    → Follows (supports ++ more) before line
follows_over_more supports more before line follows = record {
  earlier = follows.earlier;
  side = follows.side;
  premises = premises_over_more supports more line.rule line.claim.entry (map slot_of claims) follows.premises;
  value =
      value_over_more supports more line.rule line.claim.entry (map (λ c. c.value) claims) line.claim.value
      follows.value;
}
  where
    claims : List Claim
    claims = claims_at before line.from

-- a derivation is one over more supports
pub derivation_over_more : (supports more : List Support) (lines : List LineValue) → IsDerivation supports lines
    → IsDerivation (supports ++ more) lines
derivation_over_more supports more lines derivation i line is =
    follows_over_more supports more (take i lines) line (derivation i line is)

-- what is derived is derived over more supports
pub derived_over_more : (supports more : List Support) (c : Claim) → IsDerived supports c
    → IsDerived (supports ++ more) c
derived_over_more supports more c derived = record {
  before = derived.before;
  last = derived.last;
  derivation = derivation_over_more supports more (derived.before ++ derived.last ∷ []) derived.derivation;
  claim = derived.claim;
}

-- so a best value over more supports is at least as good
pub best_over_more : (supports more : List Support) (s : Slot) (u v : ℕ) → IsBest supports s u
    → IsBest (supports ++ more) s v → IsNoBetter s.0 u v
best_over_more supports more s u v best over =
    over.none_better u (derived_over_more supports more (claim_at s u) best.derived)
