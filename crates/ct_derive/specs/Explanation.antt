-- Explanations: derivations that hold no more than their last claim needs.
use Rattle.std.specs.Prelude.{◌≡◌, ◌≢◌, ℕ, ◌+◌, ◌-◌, ◌<◌, List, length, slice_get, AllPairs, Contains, Option, Some, option_map}
use Rattle.ct_words.specs.declared.claim.Claim.{Claim}
use Rattle.ct_rule_parts.specs.declared.support.Support.{Support}
use Rattle.ct_rule_parts.specs.Slot.{Slot, claim_at}
use Rattle.ct_rules.specs.Derivation.{LineValue, IsDerivation}

-- a later line names the line at the place
abbrev pub IsNamedLater : List LineValue → ℕ → Type 0
IsNamedLater lines i = (j : ℕ) × (l : LineValue) × (i < j) × (slice_get lines j ≡ Some l) × Contains l.from i

-- the claim of the last line, none where there is none
abbrev pub last_claim : List LineValue → Option Claim
last_claim lines = option_map (λ l. l.claim) (slice_get lines (length lines - 1))

-- an explanation of the bound v of a slot: a derivation that ends with it, in which no two lines have one claim, and each line but the last
-- is named by a later one
pub record IsExplanation (supports : List Support) (s : Slot) (v : ℕ) (lines : List LineValue) : Type 0 where
  pub derivation : IsDerivation supports lines
  pub ends : last_claim lines ≡ Some (claim_at s v)
  pub different : AllPairs (λ l m. l.claim ≢ m.claim) lines
  pub named : (i : ℕ) → i + 1 < length lines → IsNamedLater lines i
