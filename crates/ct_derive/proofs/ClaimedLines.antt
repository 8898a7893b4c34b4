-- A line with a claim, by its place.
use Rattle.std.proofs.Common.{◌≡◌, ℕ, List, Option, Some, None, option_map, refl}
use Rattle.std.specs.Prelude.{slice_get}
use Rattle.std.proofs.lemmas.Option.{none-some, same_Some}
use Rattle.ct_words.specs.declared.claim.Claim.{Claim}
use Rattle.ct_rules.specs.Derivation.{LineValue}

-- a line with a claim, where the claim at the place is known
pub line_with_claim : (lines : List LineValue) (i : ℕ) (c : Claim) → option_map (λ l. l.claim) (slice_get lines i) ≡ Some c
    → (l : LineValue) × (slice_get lines i ≡ Some l) × (l.claim ≡ c)
line_with_claim lines i c h = go (slice_get lines i) refl h
  where
    go : (o : Option LineValue) → slice_get lines i ≡ o → option_map (λ (l : LineValue). l.claim) o ≡ Some c
        → (l : LineValue) × (slice_get lines i ≡ Some l) × (l.claim ≡ c)
    go None is none = absurd (none-some c none)
    go (Some l) is some = (l, is, same_Some l.claim c some)
