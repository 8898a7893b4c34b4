-- Lines over supports of which some give nothing are lines over those that are left, their rules lowered.
use Rattle.std.proofs.Common.{◌≡◌, ℕ, ◌<◌, List, [], ◌∷◌, map, take, All, Option, Some, None, option_map, slice_get, refl, sym, ap, subst, ◌∙◌}
use Rattle.std.specs.List.{cons_option}
use Rattle.std.proofs.lemmas.List.{take-map, length-map}
use Rattle.std.proofs.lemmas.Option.{slice_get-map, none-some, same_Some}
use Rattle.ct_words.specs.declared.claim.Claim.{Claim}
use Rattle.ct_words.specs.declared.entry.Entry.{Entry}
use Rattle.ct_rule_parts.specs.declared.support.Support.{Support}
use Rattle.ct_rule_parts.specs.Slot.{slot_of}
use Rattle.ct_rules.specs.declared.rule.Rule.{Rule}
use Rattle.ct_rules.specs.Derivation.{LineValue, claims_at, Follows, IsDerivation}
use Rattle.ct_rules.specs.Rule.{cited, value_of}
use Rattle.ct_rules.proofs.Applied.{applies_from_premises}
use Rattle.ct_rules.specs.Removal.{Places, without, lowered, voided, lowered_line}
use Rattle.ct_rules.proofs.LoweredRules.{IsAlike-lowered, alike-side, cited-lowered, premises_of-alike, value_of-alike}
use Rattle.ct_rules.proofs.VoidedSupports.{cited-voided, names_none, premises_of-voided}

-- a lowered line claims what the line claims
claim-lowered : (gone : Places) (o : Option LineValue)
    → option_map (λ l. l.claim) (option_map (lowered_line gone) o) ≡ option_map (λ l. l.claim) o
claim-lowered gone None = refl
claim-lowered gone (Some l) = refl

pub claims_at-lowered : (gone : Places) (lines : List LineValue) (places : List ℕ)
    → claims_at (map (lowered_line gone) lines) places ≡ claims_at lines places
claims_at-lowered gone lines [] = refl
claims_at-lowered gone lines (p ∷ places) =
    ap (λ (o : Option Claim). cons_option o (claims_at (map (lowered_line gone) lines) places))
    (ap (option_map (λ (l : LineValue). l.claim)) (slice_get-map (lowered_line gone) lines p)
    ∙ claim-lowered gone (slice_get lines p))
    ∙ ap (cons_option (option_map (λ (l : LineValue). l.claim) (slice_get lines p)))
    (claims_at-lowered gone lines places)

-- a line that follows still follows
pub Follows-lowered : (gone : Places) (supports : List Support) (before : List LineValue) (line : LineValue)
    → Follows (voided gone supports) before line
    → Follows (without gone supports) (map (lowered_line gone) before) (lowered_line gone line)
Follows-lowered gone supports before line follows = record {
  earlier =
      subst (λ n. All (λ p. p < n) line.from) (sym (length-map before (lowered_line gone))) follows.earlier;
  side = follows.side ∙ sym (alike-side (lowered gone r) r (IsAlike-lowered gone r));
  premises =
      premises_of-alike (without gone supports) (voided gone supports) (lowered gone r) r e (IsAlike-lowered gone r) same
      ∙ follows.premises
      ∙ ap (λ (claims : List Claim). Some (map slot_of claims)) (sym (claims_at-lowered gone before line.from));
  value =
      value_of-alike (without gone supports) (voided gone supports) (lowered gone r) r e _ (IsAlike-lowered gone r) same
      ∙ ap (λ (claims : List Claim). value_of (voided gone supports) r e (map (λ c. c.value) claims))
      (claims_at-lowered gone before line.from)
      ∙ follows.value;
}
  where
    r : Rule
    r = line.rule

    e : Entry
    e = line.claim.entry

    same : cited (without gone supports) (lowered gone r) ≡ cited (voided gone supports) r
    same =
        let there = applies_from_premises (voided gone supports) r e (map slot_of (claims_at before line.from)) follows.premises in
        let apart = names_none gone supports r e there in
        let over_all = applies_from_premises supports r e (map slot_of (claims_at before line.from))
        (sym (premises_of-voided gone supports r e apart) ∙ follows.premises) in
        cited-lowered gone supports r e over_all apart ∙ sym (cited-voided gone supports r apart)

-- so a derivation is one
pub IsDerivation-lowered : (gone : Places) (supports : List Support) (lines : List LineValue)
    → IsDerivation (voided gone supports) lines
    → IsDerivation (without gone supports) (map (lowered_line gone) lines)
IsDerivation-lowered gone supports lines derivation i line at =
    go (slice_get lines i) refl (sym (slice_get-map (lowered_line gone) lines i) ∙ at)
  where
    go : (o : Option LineValue) → slice_get lines i ≡ o → option_map (lowered_line gone) o ≡ Some line
        → Follows (without gone supports) (take i (map (lowered_line gone) lines)) line
    go None found is = absurd (none-some line is)
    go (Some l) found is =
        subst (λ (m : LineValue). Follows (without gone supports) (take i (map (lowered_line gone) lines)) m)
        (same_Some (lowered_line gone l) line is)
        (subst (λ (before : List LineValue). Follows (without gone supports) before (lowered_line gone l))
        (sym (take-map (lowered_line gone) i lines))
        (Follows-lowered gone supports (take i lines) l (derivation i l found)))
