-- Claims that are known to be true, and claims that are known to be false.
use Rattle.std.proofs.Common.{[], ◌∷◌, refl, arith}
use Rattle.std.proofs.lemmas.List.Elements.{All-nil, All-cons}
use Rattle.ct_words.specs.Claim.{IsTrueClaim}
use Rattle.ct_words.specs.Entry.{unrestricted}
use Rattle.ct_rules.specs.declared.rule.Rule.TheVariants.{L1, L6, L8, U2}
use Rattle.ct_rules.specs.Derivation.{IsDerived}
use Rattle.ct_rules.specs.Rule.{row_of}
use Rattle.ct_rule_parts.specs.Slot.{claim_at, lower_at, upper_at}
use Rattle.ct_rule_parts.specs.Support.{Stands}
use Rattle.ct_rules.proofs.Derivations.{derived_claims_are_true}
use Rattle.ct_rules.proofs.JoinedDerivations.{derived_by_rule}

-- A(6,4) ≥ 4: words of length 3 and u + v
four_at_six : IsDerived [] (claim_at (lower_at 6 4) 4)
unfolding row_of
four_at_six =
    derived_by_rule [] L8 (unrestricted 6 4) (claim_at (lower_at 3 4) 1 ∷ []) 4 refl
    (All-cons (IsDerived []) (claim_at (lower_at 3 4) 1) []
    (derived_by_rule [] L1 (unrestricted 3 4) [] 1 refl (All-nil (IsDerived [])) refl) (All-nil (IsDerived [])))
    refl

-- so A(5,3) ≥ 4
pub four_from_below : IsDerived [] (claim_at (lower_at 5 3) 4)
unfolding row_of
four_from_below =
    derived_by_rule [] L6 (unrestricted 5 3) (claim_at (lower_at 6 4) 4 ∷ []) 4 refl
    (All-cons (IsDerived []) (claim_at (lower_at 6 4) 4) [] four_at_six (All-nil (IsDerived []))) refl

-- and A(5,3) ≤ 4, by Plotkin
pub four_from_above : IsDerived [] (claim_at (upper_at 5 3) 4)
unfolding row_of
four_from_above = derived_by_rule [] U2 (unrestricted 5 3) [] 4 refl (All-nil (IsDerived [])) refl

-- both are true
pub true_from_below : IsTrueClaim (claim_at (lower_at 5 3) 4)
true_from_below = derived_claims_are_true [] (All-nil Stands) (claim_at (lower_at 5 3) 4) four_from_below

pub true_from_above : IsTrueClaim (claim_at (upper_at 5 3) 4)
true_from_above = derived_claims_are_true [] (All-nil Stands) (claim_at (upper_at 5 3) 4) four_from_above

-- so no code has 5 words, and 3 is no upper bound
pub not_five : IsTrueClaim (claim_at (lower_at 5 3) 5) → ⊥
not_five h =
    let most = true_from_above.truth h.truth.0 h.truth.1 in
    let size = h.truth.2 in
    absurd (omega arith)

pub not_three : IsTrueClaim (claim_at (upper_at 5 3) 3) → ⊥
not_three h =
    let most = h.truth true_from_below.truth.0 true_from_below.truth.1 in
    let size = true_from_below.truth.2 in
    absurd (omega arith)
