-- Each line of an explanation of a lower bound claims a lower bound.
use Rattle.std.proofs.Common.{◌≡◌, ℕ, zero, suc, ◌+◌, ◌-◌, ◌<◌, ◌≤◌, List, [], ◌∷◌, length, take, map, All, Option, Some, None, option_map, sym, ap, subst, ◌∙◌, inl, inr, arith}
use Rattle.std.specs.Prelude.{slice_get, Contains}
use Rattle.std.specs.List.{cons_option}
use Rattle.std.proofs.lemmas.Bool.{cases_lt}
use Rattle.std.proofs.lemmas.Option.{slice_get_within, same_Some}
use Rattle.std.proofs.lemmas.List.Elements.{All-head, All-tail}
use Rattle.ct_words.specs.declared.entry.Entry.{Entry}
use Rattle.ct_words.specs.declared.claim.Side.TheVariants.{Lower}
use Rattle.ct_words.specs.declared.claim.Claim.{Claim}
use Rattle.ct_rule_parts.specs.declared.support.Support.{Support}
use Rattle.ct_rule_parts.specs.Slot.{Slot, slot_of, claim_at}
use Rattle.ct_rules.specs.Rule.{rule_side}
use Rattle.ct_rules.specs.Derivation.{LineValue, claims_at, Follows}
use Rattle.ct_rules.proofs.RuleLaws.{premises_on_side}
use Rattle.ct_derive.specs.Explanation.{IsExplanation, IsNamedLater}
use Rattle.ct_derive.proofs.PrunedLines.{get_of_take}

-- what holds of the claims at places holds of the claim of the line at each of them
claims_have : (P : Slot → Type 0) (before : List LineValue) (places : List ℕ) (p : ℕ) (l : LineValue)
    → All P (map slot_of (claims_at before places)) → Contains places p → slice_get before p ≡ Some l → P (slot_of l.claim)
claims_have P before [] p l all (k, within, is) at = absurd (omega (arith, within))
claims_have P before (q ∷ places) p l all (zero, within, is) at =
    let here : slice_get before q ≡ Some l = ap (slice_get before) is ∙ at in
    let rest = claims_at before places in
    All-head P (slot_of l.claim) (map slot_of rest)
    (subst (λ (o : Option LineValue). All P (map slot_of (cons_option (option_map (λ m. m.claim) o) rest))) here all)
claims_have P before (q ∷ places) p l all (suc k, within, is) at =
    claims_have P before places p l (go (slice_get before q) all) (k, omega arith, is) at
  where
    go : (o : Option LineValue) → All P (map slot_of (cons_option (option_map (λ m. m.claim) o) (claims_at before places)))
        → All P (map slot_of (claims_at before places))
    go None h = h
    go (Some m) h = All-tail P (slot_of m.claim) (map slot_of (claims_at before places)) h

-- a line that another names has the side of the other's rule
named_side : (supports : List Support) (before : List LineValue) (line : LineValue) (p : ℕ) (l : LineValue) → Follows supports before line
    → Contains line.from p → slice_get before p ≡ Some l → l.claim.side ≡ line.claim.side
named_side supports before line p l follows names at =
    claims_have (λ s. s.0 ≡ rule_side line.rule) before line.from p l
    (premises_on_side supports line.rule line.claim.entry (map slot_of (claims_at before line.from)) follows.premises) names at
    ∙ sym follows.side

-- the last of the lines, and then each that is named
lower_line : (supports : List Support) (e : Entry) (v : ℕ) (lines : List LineValue) → IsExplanation supports (Lower, e) v lines
    → (m i : ℕ) (l : LineValue) → length lines ≤ i + m → slice_get lines i ≡ Some l → l.claim.side ≡ Lower
lower_line supports e v lines explained zero i l most at =
    let within = slice_get_within lines i l at in
    absurd (omega arith)
lower_line supports e v lines explained (suc m) i l most at =
    elim (cases_lt (i + 1) (length lines)) [
      | inl before ↦
          by_later (λ j later after there. lower_line supports e v lines explained m j later (omega arith) there) (explained.named i before)
      | inr not_before ↦
          let within = slice_get_within lines i l at in
          let last : i ≡ length lines - 1 = omega arith in
          let ends = ap (λ k. option_map (λ (m : LineValue). m.claim) (slice_get lines k)) last ∙ explained.ends in
          let claim = same_Some l.claim (claim_at (Lower, e) v) (sym (ap (option_map (λ (m : LineValue). m.claim)) at) ∙ ends) in
          ap (λ (c : Claim). c.side) claim
    ]
  where
    by_later : ((j : ℕ) (later : LineValue) → i < j → slice_get lines j ≡ Some later → later.claim.side ≡ Lower) → IsNamedLater lines i
        → l.claim.side ≡ Lower
    by_later lower (j, later, after, there, names) =
        named_side supports (take j lines) later i l (explained.derivation j later there) names (get_of_take lines j i after ∙ at)
        ∙ lower j later after there

pub lower_lines : (supports : List Support) (e : Entry) (v : ℕ) (lines : List LineValue) → IsExplanation supports (Lower, e) v lines
    → (i : ℕ) (l : LineValue) → slice_get lines i ≡ Some l → l.claim.side ≡ Lower
lower_lines supports e v lines explained i l at = lower_line supports e v lines explained (length lines) i l (omega arith) at
