-- Lines of derivations: what a line rests on, prefixes, one more line, and the truth of what is derived.
use Rattle.std.proofs.Common.{◌≡◌, ℕ, zero, suc, ◌<◌, List, [], ◌∷◌, ◌++◌, length, get_or, take, All, slice_get, Option, Some, None, option_map, refl, sym, subst, inl, inr, arith}
use Rattle.std.specs.List.{cons_option}
use Rattle.std.proofs.lemmas.List.{take-append-le, take-take, take_at}
use Rattle.std.proofs.lemmas.List.Elements.{All-nil, All-cons}
use Rattle.std.proofs.lemmas.Option.{slice_get-get_or, none-some, same_Some}
use Rattle.ct_words.specs.declared.claim.Claim.{Claim}
use Rattle.ct_words.specs.declared.claim.Side.{Side}
use Rattle.ct_words.specs.Claim.{IsTrueClaim}
use Rattle.ct_rule_parts.specs.declared.support.Support.{Support}
use Rattle.ct_rule_parts.specs.Support.{AllStand}
use Rattle.ct_rules.specs.Rule.{rule_side}
use Rattle.ct_rule_parts.specs.Slot.{claim_at}
use Rattle.ct_rules.specs.Derivation.{LineValue, claims_at, Follows, IsDerivation, IsDerived}
use Rattle.ct_rule_parts.proofs.Places.{IsAtSeam, slice_get-take, slice_get-append_cases, slice_get_last}
use Rattle.ct_rules.proofs.Applied.{cited-stands}
use Rattle.ct_rules.proofs.RuleLaws.{value_is_sound}

-- the claims at places have what the claims of the lines have
pub All-claims_at : (P : Claim → Type 0) (lines : List LineValue) (places : List ℕ)
    → ((p : ℕ) (line : LineValue) → slice_get lines p ≡ Some line → P line.claim) → All P (claims_at lines places)
All-claims_at P lines [] each = All-nil P
All-claims_at P lines (p ∷ places) each = go (slice_get lines p) refl (All-claims_at P lines places each)
  where
    go : (at : Option LineValue) → slice_get lines p ≡ at → All P (claims_at lines places)
        → All P (cons_option (option_map (λ l. l.claim) at) (claims_at lines places))
    go None is rest = rest
    go (Some line) is rest = All-cons P line.claim (claims_at lines places) (each p line is) rest

-- the claims of a line's premises have what the claims of all lines before it have
pub All-premises : (P : Claim → Type 0) (lines : List LineValue) (i : ℕ) (places : List ℕ)
    → ((p : ℕ) (line : LineValue) → p < i → slice_get lines p ≡ Some line → P line.claim)
    → All P (claims_at (take i lines) places)
All-premises P lines i places each =
    All-claims_at P (take i lines) places
    (λ p line is. let at = slice_get-take i lines p line is in each p line at.0 at.1)

-- what holds of what a rule gives at the entry of a line holds of the line's claim
pub claim_of_line : (P : Claim → Type 0) (supports : List Support) (before : List LineValue) (line : LineValue)
    → Follows supports before line
    → P (claim_at (rule_side line.rule, line.claim.entry) line.claim.value) → P line.claim
claim_of_line P supports before line follows holds =
    subst (λ (s : Side). P (record { side = s; entry = line.claim.entry; value = line.claim.value }))
    (sym follows.side) holds

-- a line that follows from lines with true claims has a true claim
pub following_line_is_true : (supports : List Support) (before : List LineValue) (line : LineValue) → AllStand supports
    → All IsTrueClaim (claims_at before line.from) → Follows supports before line → IsTrueClaim line.claim
following_line_is_true supports before line stand premises follows =
    claim_of_line IsTrueClaim supports before line follows
    (value_is_sound supports line.rule line.claim.entry (claims_at before line.from) line.claim.value
    (cited-stands supports line.rule stand)
    follows.premises premises follows.value)

-- the claim of a line has what the claims that it rests on have
abbrev pub IsInherited : (Claim → Type 0) → List Support → Type 0
IsInherited P supports = (before : List LineValue) (line : LineValue) → Follows supports before line
    → All P (claims_at before line.from) → P line.claim

-- what each line has where all lines before it have it, all lines of a derivation have
pub each_line : (P : Claim → Type 0) (supports : List Support) (lines : List LineValue) → IsDerivation supports lines
    → IsInherited P supports
    → (i : ℕ) (line : LineValue) → slice_get lines i ≡ Some line → P line.claim
each_line P supports lines derivation step i line is = below (suc i) i line (omega arith) is
  where
    below : (n i : ℕ) (line : LineValue) → i < n → slice_get lines i ≡ Some line → P line.claim
    below zero i line h is = absurd (omega arith)
    below (suc n) i line h is =
        step (take i lines) line (derivation i line is)
        (All-premises P lines i line.from (λ p earlier before at. below n p earlier (omega arith) at))

-- what holds of the line at each place holds of all lines
All-lines : (P : LineValue → Type 0) (lines : List LineValue)
    → ((i : ℕ) (line : LineValue) → slice_get lines i ≡ Some line → P line) → All P lines
All-lines P lines each k d within = each k (get_or lines k d) (slice_get-get_or lines k d within)

-- over supports that stand, all lines of a derivation claim what is true
pub lines_are_true : (supports : List Support) (lines : List LineValue) → AllStand supports
    → IsDerivation supports lines
    → All (λ line. IsTrueClaim line.claim) lines
lines_are_true supports lines stand derivation =
    All-lines (λ line. IsTrueClaim line.claim) lines
    (each_line IsTrueClaim supports lines derivation
    (λ before line follows premises. following_line_is_true supports before line stand premises follows))

-- what all lines of derivations have, each derived claim has
pub each_derived : (P : Claim → Type 0) (supports : List Support)
    → IsInherited P supports
    → (c : Claim) → IsDerived supports c → P c
each_derived P supports step c derived =
    subst P derived.claim
    (each_line P supports (derived.before ++ derived.last ∷ []) derived.derivation step
    (length derived.before) derived.last
    (slice_get_last derived.before derived.last))

-- over supports that stand, derived claims are true
pub derived_claims_are_true : (supports : List Support) → AllStand supports → (c : Claim) → IsDerived supports c
    → IsTrueClaim c
derived_claims_are_true supports stand =
    each_derived IsTrueClaim supports
    (λ before line follows premises. following_line_is_true supports before line stand premises follows)

-- no line at all is a derivation
pub derivation-nil : (supports : List Support) → IsDerivation supports []
derivation-nil supports i line is = absurd (none-some line is)

-- the first lines of a derivation are one
pub derivation-take : (supports : List Support) (n : ℕ) (lines : List LineValue) → IsDerivation supports lines
    → IsDerivation supports (take n lines)
derivation-take supports n lines derivation i line is =
    let at = slice_get-take n lines i line is in
    let same : take i (take n lines) ≡ take i lines = take-take i n lines (omega arith) in
    subst (λ (before : List LineValue). Follows supports before line) (sym same) (derivation i line at.1)

-- a prefix of a derivation is one
pub derivation-prefix : (supports : List Support) (lines more : List LineValue)
    → IsDerivation supports (lines ++ more) → IsDerivation supports lines
derivation-prefix supports lines more derivation =
    subst (IsDerivation supports) (take_at lines more (length lines) refl)
    (derivation-take supports (length lines) (lines ++ more) derivation)

-- a derivation with a line that follows from it is one
pub derivation-push : (supports : List Support) (lines : List LineValue) (line : LineValue)
    → IsDerivation supports lines → Follows supports lines line
    → IsDerivation supports (lines ++ line ∷ [])
derivation-push supports lines line derivation follows i item is =
    go (slice_get-append_cases lines (line ∷ []) i item is)
  where
    go : IsAtSeam lines (line ∷ []) i item → Follows supports (take i (lines ++ line ∷ [])) item
    go (inl here) =
        let same : take i (lines ++ line ∷ []) ≡ take i lines = take-append-le i lines (line ∷ []) (omega arith) in
        subst (λ (before : List LineValue). Follows supports before item) (sym same) (derivation i item here.1)
    go (inr (zero, at, item_is)) =
        let same : take i (lines ++ line ∷ []) ≡ lines = take_at lines (line ∷ []) i (omega arith) in
        subst (λ (before : List LineValue). Follows supports before item) (sym same)
        (subst (Follows supports lines) (same_Some line item item_is) follows)
    go (inr (suc j, at, item_is)) = absurd (none-some item item_is)

-- each line of a derivation is derived
pub derived_from_line : (supports : List Support) (lines : List LineValue) (i : ℕ) (line : LineValue)
    → slice_get lines i ≡ Some line
    → IsDerivation supports lines → IsDerived supports line.claim
derived_from_line supports lines i line is derivation = record {
  before = take i lines;
  last = line;
  derivation =
      derivation-push supports (take i lines) line (derivation-take supports i lines derivation) (derivation i line is);
  claim = refl;
}

-- all lines of a derivation are derived
pub lines_are_derived : (supports : List Support) (lines : List LineValue) → IsDerivation supports lines
    → All (λ line. IsDerived supports line.claim) lines
lines_are_derived supports lines derivation =
    All-lines (λ line. IsDerived supports line.claim) lines
    (λ i line is. derived_from_line supports lines i line is derivation)
