-- The words outside the balls.
use Rattle.std.proofs.Common.{◌≡◌, ℕ, ◌+◌, ◌/◌, ◌≤◌, IfSome, sym, subst, arith}
use Rattle.std.specs.Prelude.{Option, Some}
use Rattle.ct_words.specs.declared.limits.TheConstants.{MAX_BOUND}
use Rattle.ct_words.specs.Entry.{unrestricted}
use Rattle.ct_words.specs.Code.{IsTrueUpper}
use Rattle.ct_words.proofs.EntryLemmas.{entry_limits}
use Rattle.ct_johnson.specs.Bounds.{johnson_odd}
use Rattle.ct_johnson.proofs.JohnsonRule.{johnson_sound, johnson_within}
use Rattle.ct_johnson.proofs.unrestricted.johnson.Goals as goal

-- what holds of the number, where there is one, holds of this one
holds : (o : Option ℕ) (P : ℕ → Type 0) (v : ℕ) → Some v ≡ o → IfSome o P → P v
holds o P v is all = subst (λ o. IfSome o P) (sym is) all

-- it is a bound of the table
within : (c : goal.In_ok-bound) → (1 ≤ c.in_ok-bound.bound) × (c.in_ok-bound.bound ≤ MAX_BOUND)
within c =
    let limits = entry_limits (unrestricted c.args.n c.args.d) c.requires.entry in
    holds (johnson_odd c.args.n ((c.args.d + 1) / 2) c.args.u) (λ v. (1 ≤ v) × (v ≤ MAX_BOUND)) c.in_ok-bound.bound c.in_ok-bound.ensures
    (johnson_within c.args.n c.args.d c.args.u c.if-d-eq1.true c.if-d-n.true limits.length_to)

pub overflow_cast-result : goal.overflow_cast-result
overflow_cast-result c = record { fits = omega (arith, (within c).1) }

pub returns-in_ok-bound-clause-range : goal.returns-in_ok-bound-clause-range
returns-in_ok-bound-clause-range c = within c

pub returns-in_ok-bound-clause-sound : goal.returns-in_ok-bound-clause-sound
returns-in_ok-bound-clause-sound c = λ premise.
    holds (johnson_odd c.args.n ((c.args.d + 1) / 2) c.args.u) (IsTrueUpper (unrestricted c.args.n c.args.d)) c.in_ok-bound.bound c.in_ok-bound.ensures
    (johnson_sound c.args.n c.args.d c.args.u c.if-d-eq1.true premise)
