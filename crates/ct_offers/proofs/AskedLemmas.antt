-- Rules that are asked one after the other.
use Rattle.std.proofs.Common.{◌≡◌, ℕ, ◌+◌, ◌<◌, ◌≤◌, List, [], ◌∷◌, ◌++◌, All, Option, sym, subst, arith, inl, inr}
use Rattle.std.proofs.lemmas.Bool.{cases_eq}
use Rattle.std.proofs.lemmas.List.Elements.{All-nil, All-cons, All-append}
use Rattle.ct_words.specs.declared.claim.Side.{Side}
use Rattle.ct_words.specs.declared.entry.Entry.{Entry}
use Rattle.ct_rule_parts.specs.declared.support.Support.{Support}
use Rattle.ct_rule_parts.specs.Slot.{Slot}
use Rattle.ct_rules.specs.declared.rule.Rule.{Rule}
use Rattle.ct_offers.specs.declared.best.Best.{Best}
use Rattle.ct_offers.specs.Offers.{IsWithin}
use Rattle.ct_offers.specs.Inside.Pulled.{IsPulled, resting_rules}
use Rattle.ct_offers.proofs.PulledLemmas.{IsPulled-refl, IsPulled-trans, within_better, all_within_better}

-- what was found is pulled from what was there at first, and the rules so far give nothing better
pub record IsAsked (supports : List Support) (f : Slot → ℕ) (s : Slot) (first best : Best) (rules : List Rule) : Type 0 where
  pub pulled : IsPulled supports f s first best
  pub within : All (IsWithin supports f s best.value) rules

pub asked_none : (supports : List Support) (f : Slot → ℕ) (s : Slot) (best : Best) → IsAsked supports f s best best []
asked_none supports f s best = record { pulled = IsPulled-refl supports f s best; within = All-nil (IsWithin supports f s best.value) }

-- one more rule
pub asked_more : (supports : List Support) (f : Slot → ℕ) (s : Slot) (first old new : Best) (rules : List Rule) (r : Rule)
    → IsAsked supports f s first old rules → IsPulled supports f s old new → IsWithin supports f s new.value r
    → IsAsked supports f s first new (rules ++ r ∷ [])
asked_more supports f s first old new rules r asked pulled within = record {
  pulled = IsPulled-trans supports f s first old new asked.pulled pulled;
  within =
      All-append (IsWithin supports f s new.value) rules (r ∷ [])
      (all_within_better supports f s old.value new.value rules pulled.no_worse asked.within)
      (All-cons (IsWithin supports f s new.value) r [] within (All-nil (IsWithin supports f s new.value)));
}

-- one more weight
pub weights_more : (supports : List Support) (f : Slot → ℕ) (s : Slot) (old new : Best) (named : ℕ → Rule) (k : ℕ)
    → IsPulled supports f s old new → IsWithin supports f s new.value (named k)
    → ((w : ℕ) → w < k → IsWithin supports f s old.value (named w)) → (w : ℕ) → w < k + 1 → IsWithin supports f s new.value (named w)
weights_more supports f s old new named k pulled here before w below = elim (cases_eq w k) [
  | inl same ↦ subst (λ u. IsWithin supports f s new.value (named u)) (sym same) here
  | inr other ↦ within_better supports f s old.value new.value (named w) pulled.no_worse (before w (omega arith))
]

-- so from one weight on
pub weights_more_from : (supports : List Support) (f : Slot → ℕ) (s : Slot) (old new : Best) (named : ℕ → Rule) (low k : ℕ)
    → IsPulled supports f s old new → IsWithin supports f s new.value (named k)
    → ((w : ℕ) → low ≤ w → w < k → IsWithin supports f s old.value (named w))
    → (w : ℕ) → low ≤ w → w < k + 1 → IsWithin supports f s new.value (named w)
weights_more_from supports f s old new named low k pulled here before w from below = elim (cases_eq w k) [
  | inl same ↦ subst (λ u. IsWithin supports f s new.value (named u)) (sym same) here
  | inr other ↦ within_better supports f s old.value new.value (named w) pulled.no_worse (before w from (omega arith))
]

-- at the slot whose side and weight are known
pub asked_at : (supports : List Support) (f : Slot → ℕ) (side own : Side) (e : Entry) (w : Option ℕ) (best : ℕ) → side ≡ own → e.w ≡ w
    → All (IsWithin supports f (own, e) best) (resting_rules (own, record { n = e.n; d = e.d; w = w }))
    → All (IsWithin supports f (side, e) best) (resting_rules (side, e))
asked_at supports f side own e w best same weight asked =
    subst (λ (s : Side). All (IsWithin supports f (s, e) best) (resting_rules (s, e))) (sym same)
    (subst (λ (v : Option ℕ). All (IsWithin supports f (own, e) best) (resting_rules (own, record { n = e.n; d = e.d; w = v }))) (sym weight) asked)
