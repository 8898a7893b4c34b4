use Rattle.std.proofs.Common.{refl, sym}
use Rattle.std.specs.Prelude.{pos}
use Rattle.std.proofs.lemmas.Option.{none-some}
use Rattle.ct_words.specs.Numbers.{krawtchouk, johnson}
use Rattle.ct_duals.specs.declared.fault.DualFault.TheVariants.{Above}
use Rattle.ct_duals.specs.Check.{dual_fault}
use Rattle.ct_duals.specs.Examples.{thirteen_six, eight_four_four, one_everywhere, above_at_last}
use Rattle.ct_duals.proofs.Faults.{accepted-from_none, none-from_accepted}
use Rattle.ct_duals.proofs.FormLemmas.{form-from}
use Rattle.ct_laws.proofs.math.delsarte.known_standing_duals.Goals as goal

pub returns-clause-stands : goal.returns-clause-stands
unfolding dual_fault krawtchouk
returns-clause-stands c = accepted-from_none thirteen_six (form-from thirteen_six refl) refl

pub returns-clause-weighted_stands : goal.returns-clause-weighted_stands
unfolding dual_fault johnson
returns-clause-weighted_stands c = accepted-from_none eight_four_four (form-from eight_four_four refl) refl

pub returns-clause-one_value : goal.returns-clause-one_value
unfolding krawtchouk
returns-clause-one_value c = λ at_zero h. h.at_zero_is

pub returns-clause-above : goal.returns-clause-above
unfolding dual_fault krawtchouk
returns-clause-above c = λ at_zero h. none-some (Above 3 (pos 1) (pos 0)) (sym (none-from_accepted (record { dual = one_everywhere; at_zero = at_zero }) h))

pub returns-clause-above_at_last : goal.returns-clause-above_at_last
unfolding dual_fault krawtchouk
returns-clause-above_at_last c = λ at_zero h. none-some (Above 5 (pos 6) (pos 0)) (sym (none-from_accepted (record { dual = above_at_last; at_zero = at_zero }) h))
