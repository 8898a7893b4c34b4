use Rattle.std.proofs.Common.{◌≡◌, ◌⊎◌, ℕ, List, [], ◌∷◌, slice_get, option_map, refl, sym, ap, ◌∙◌, inl, inr, arith}
use Rattle.ct_words.specs.declared.claim.Claim.{Claim}
use Rattle.ct_rule_parts.specs.Slot.{Slot, claim_at, lower_at}
use Rattle.ct_rules.specs.declared.rule.Rule.{Rule}
use Rattle.ct_rules.specs.declared.rule.Rule.TheVariants.{L4, L10}
use Rattle.ct_rules.specs.Derivation.{LineValue}
use Rattle.ct_rules.specs.Rule.{row_of}
use Rattle.ct_rules.specs.Removal.{only, count_below, RestsOnPlaces}
use Rattle.ct_table.specs.Removal.{claim_and_rule, claim_and_lowered_rule}
use Rattle.ct_table.specs.Table.{TableValue, HasReason, reason_at}
use Rattle.ct_laws.proofs.ReasonLemmas.{line_of, lone_reason_stays, one_reason}
use Rattle.ct_laws.proofs.tables.known_reasons_after_a_removal.Goals as goal

-- the claim of the examples
four : Claim
four = claim_at (lower_at 6 4) 4

-- the place that a rule of a support names
place_or_five : Rule → ℕ
place_or_five (L10 p) = p
place_or_five r = 5

-- what A(6,4) has for its reason is the line that it keeps
by_keeping : (new : TableValue) (q : ℕ) (c : Claim) (r : Rule) (from : List ℕ)
    → HasReason new (lower_at 6 4) (line_of c r from)
    → ((after : List ℕ) × HasReason new (lower_at 6 4) (line_of four (L10 q) after))
    → (L10 q ≡ r) × (four ≡ c)
by_keeping new q c r from has (after, stays) =
    let one = one_reason new (lower_at 6 4) (line_of four (L10 q) after) (line_of c r from) stays has in
    (ap (λ (l : LineValue). l.rule) one, ap (λ (l : LineValue). l.claim) one)

-- the lines of two tables
two_lines : List LineValue
two_lines = line_of (claim_at (lower_at 5 3) 4) (L10 0) [] ∷ line_of four (L10 1) [] ∷ []

second_line : List LineValue
second_line = line_of four (L10 0) [] ∷ []

-- the reason of a slot of the one is the first line, or the second, which in the other is the first
IsMoved : TableValue → TableValue → Slot → Type 0
IsMoved old new s = (reason_at old s ≡ 0) ⊎ ((reason_at old s ≡ 1) × (reason_at new s ≡ 0))

pub returns-clause-moved : goal.returns-clause-moved
unfolding row_of count_below four two_lines second_line IsMoved
returns-clause-moved c = λ old new before after reasons s entry free. go old new before after s (reasons s entry) free
  where
    go : (old new : TableValue) → old.lines ≡ two_lines → new.lines ≡ second_line → (s : Slot) → IsMoved old new s
        → ¬ RestsOnPlaces old.lines (only 0) (reason_at old s)
        → option_map claim_and_rule (slice_get new.lines (reason_at new s))
        ≡ option_map (claim_and_lowered_rule (only 0)) (slice_get old.lines (reason_at old s))
    go old new before after s (inl first) free =
        let there = ap (λ ls. slice_get ls (reason_at old s)) before ∙ ap (slice_get two_lines) first in
        absurd (free ([], (line_of (claim_at (lower_at 5 3) 4) (L10 0) [], there, refl)))
    go old new before after s (inr (second, first)) free =
        let was = ap (λ ls. slice_get ls (reason_at old s)) before ∙ ap (slice_get two_lines) second in
        let is = ap (λ ls. slice_get ls (reason_at new s)) after ∙ ap (slice_get second_line) first in
        ap (option_map claim_and_rule) is ∙ sym (ap (option_map (claim_and_lowered_rule (only 0))) was)

pub returns-clause-not_lowered : goal.returns-clause-not_lowered
unfolding row_of count_below four place_or_five
returns-clause-not_lowered c = λ old new from had has keeps.
    let is = by_keeping new 0 four (L10 1) from has
    (lone_reason_stays (only 0) old new (lower_at 6 4) four (L10 1) refl keeps had refl) in
    let places : 0 ≡ 1 = ap place_or_five is.0 in
    absurd (omega (arith, places))

pub returns-clause-lowered_twice : goal.returns-clause-lowered_twice
unfolding row_of count_below four place_or_five
returns-clause-lowered_twice c = λ old new from had has keeps.
    let is = by_keeping new 1 four (L10 0) from has
    (lone_reason_stays (only 0) old new (lower_at 6 4) four (L10 2) refl keeps had refl) in
    let places : 1 ≡ 0 = ap place_or_five is.0 in
    absurd (omega (arith, places))

pub returns-clause-other_rule : goal.returns-clause-other_rule
unfolding row_of count_below four place_or_five
returns-clause-other_rule c = λ old new from had has keeps.
    let is = by_keeping new 0 four L4 from has
    (lone_reason_stays (only 0) old new (lower_at 6 4) four (L10 1) refl keeps had refl) in
    let places : 0 ≡ 5 = ap place_or_five is.0 in
    absurd (omega (arith, places))

pub returns-clause-other_value : goal.returns-clause-other_value
unfolding row_of count_below four place_or_five
returns-clause-other_value c = λ old new from had has keeps.
    let is = by_keeping new 0 (claim_at (lower_at 6 4) 3) (L10 0) from has
    (lone_reason_stays (only 0) old new (lower_at 6 4) four (L10 1) refl keeps had refl) in
    let values : 4 ≡ 3 = ap (λ (k : Claim). k.value) is.1 in
    absurd (omega (arith, values))
