-- Derivations by the rules of the table, and the best values that they give.
use Rattle.std.specs.Prelude.{◌≡◌, ℕ, ◌<◌, List, [], ◌∷◌, ◌++◌, length, take, map, All, slice_get, Some, option_map}
use Rattle.std.specs.List.{filter_map}
use Rattle.ct_words.specs.declared.claim.Claim.{Claim}
use Rattle.ct_rules.specs.declared.rule.Rule.{Rule}
use Rattle.ct_rule_parts.specs.declared.support.Support.{Support}
use Rattle.ct_rules.specs.Rule.{rule_side, premises_of, value_of}
use Rattle.ct_rule_parts.specs.Slot.{Slot, slot_of, claim_at, IsNoBetter}

-- a line: a claim, the rule that gives it, and the places of the lines that hold its premises
pub record LineValue : Type 0 where
  pub claim : Claim
  pub rule : Rule
  pub from : List ℕ

-- the claims of the lines at these places
abbrev pub claims_at : List LineValue → List ℕ → List Claim
claims_at lines places = filter_map (λ p. option_map (λ l. l.claim) (slice_get lines p)) places

-- a line follows from the lines before it: it names places among them, their claims bound the premises of its rule in order, and its claim
-- has the rule's side and the rule's value of theirs
pub record Follows (supports : List Support) (before : List LineValue) (line : LineValue) : Type 0 where
  pub earlier : All (λ p. p < length before) line.from
  pub side : line.claim.side ≡ rule_side line.rule
  pub premises : premises_of supports line.rule line.claim.entry ≡ Some (map slot_of (claims_at before line.from))
  pub value : value_of supports line.rule line.claim.entry (map (λ c. c.value) (claims_at before line.from)) ≡ Some line.claim.value

-- a derivation: each line follows from those before it
abbrev pub IsDerivation : List Support → List LineValue → Type 0
IsDerivation supports lines = (i : ℕ) (line : LineValue) → slice_get lines i ≡ Some line → Follows supports (take i lines) line

-- some derivation ends with the claim
pub record IsDerived (supports : List Support) (c : Claim) : Type 0 where
  pub before : List LineValue
  pub last : LineValue
  pub derivation : IsDerivation supports (before ++ last ∷ [])
  pub claim : last.claim ≡ c

-- the best value of a slot: some derivation ends with it, and none ends with a better one
pub record IsBest (supports : List Support) (s : Slot) (v : ℕ) : Type 0 where
  pub derived : IsDerived supports (claim_at s v)
  pub none_better : (u : ℕ) → IsDerived supports (claim_at s u) → IsNoBetter s.0 u v
