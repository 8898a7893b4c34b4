use Rattle.std.proofs.Common.{arith}
use Rattle.ct_laws.proofs.KnownClaims.{true_from_below, true_from_above, not_five, not_three}
use Rattle.ct_laws.proofs.derivations.known_claims.Goals as goal

pub returns-clause-from_below : goal.returns-clause-from_below
returns-clause-from_below c = true_from_below

pub returns-clause-from_above : goal.returns-clause-from_above
returns-clause-from_above c = true_from_above

pub returns-clause-too_great : goal.returns-clause-too_great
returns-clause-too_great c = not_five

pub returns-clause-too_small : goal.returns-clause-too_small
returns-clause-too_small c = not_three

pub returns-clause-no_words : goal.returns-clause-no_words
returns-clause-no_words c = λ h. let some = h.range.0 in absurd (omega arith)

pub returns-clause-above_limit : goal.returns-clause-above_limit
returns-clause-above_limit c = λ h. let most = h.range.1 in absurd (omega arith)

pub returns-clause-too_long : goal.returns-clause-too_long
returns-clause-too_long c = λ h. let entry = h.entry in absurd cc

pub returns-clause-too_near : goal.returns-clause-too_near
returns-clause-too_near c = λ h. let entry = h.entry in absurd cc

pub returns-clause-odd_beside_weight : goal.returns-clause-odd_beside_weight
returns-clause-odd_beside_weight c = λ h. let entry = h.entry in absurd cc
