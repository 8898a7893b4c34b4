-- What explanations say.
use Rattle.std.proofs.Common.{ℕ, ◌-◌, List, All, length, subst}
use Rattle.ct_words.specs.Claim.{IsTrueClaim}
use Rattle.ct_rule_parts.specs.declared.support.Support.{Support}
use Rattle.ct_rule_parts.specs.Slot.{Slot, claim_at}
use Rattle.ct_rule_parts.specs.Support.{AllStand}
use Rattle.ct_rules.specs.Derivation.{LineValue, IsDerived}
use Rattle.ct_rules.proofs.Derivations.{derived_from_line, derived_claims_are_true, lines_are_true}
use Rattle.ct_derive.specs.Derivation.{AreOrdered}
use Rattle.ct_derive.specs.Explanation.{IsExplanation}
use Rattle.ct_derive.proofs.MarkedLines.{named_below_line}
use Rattle.ct_derive.proofs.ClaimedLines.{line_with_claim}

pub derived_from_explanation : (supports : List Support) (s : Slot) (v : ℕ) (lines : List LineValue)
    → IsExplanation supports s v lines → IsDerived supports (claim_at s v)
derived_from_explanation supports s v lines explained =
    let last = line_with_claim lines (length lines - 1) (claim_at s v) explained.ends in
    subst (IsDerived supports) last.2 (derived_from_line supports lines (length lines - 1) last.0 last.1 explained.derivation)

pub bound_is_true : (supports : List Support) (s : Slot) (v : ℕ) (lines : List LineValue) → AllStand supports
    → IsExplanation supports s v lines → IsTrueClaim (claim_at s v)
bound_is_true supports s v lines stand explained =
    derived_claims_are_true supports stand (claim_at s v) (derived_from_explanation supports s v lines explained)

pub lines_of_explanation_are_true : (supports : List Support) (s : Slot) (v : ℕ) (lines : List LineValue) → AllStand supports
    → IsExplanation supports s v lines → All (λ l. IsTrueClaim l.claim) lines
lines_of_explanation_are_true supports s v lines stand explained = lines_are_true supports lines stand explained.derivation

pub ordered_lines : (supports : List Support) (s : Slot) (v : ℕ) (lines : List LineValue) → IsExplanation supports s v lines
    → AreOrdered lines
ordered_lines supports s v lines explained i l at = named_below_line supports lines i l explained.derivation at
