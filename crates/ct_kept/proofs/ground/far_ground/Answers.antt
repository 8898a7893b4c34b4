use Rattle.std.proofs.Common.{ℕ, sym, subst, ◌∙◌, refl}
use Rattle.ct_words.specs.declared.claim.Side.TheVariants.{Upper}
use Rattle.ct_kept.specs.Kept.{IsGroundBound}
use Rattle.ct_kept.proofs.GroundLemmas.{least_upper, other_gives}
use Rattle.ct_kept.proofs.ground.far_ground.Goals as goal

pub returns-then-value-eq1-clause-given : goal.returns-then-value-eq1-clause-given
returns-then-value-eq1-clause-given c =
    other_gives Upper c.args.entry c.far_rule-rule.result c.in_ok-value.value c.far_rule-rule.ensures (sym c.given.ensures ∙ c.in_ok-value.was)

pub returns-then-value-eq1-clause-best : goal.returns-then-value-eq1-clause-best
returns-then-value-eq1-clause-best c =
    subst (λ (v : ℕ). IsGroundBound (Upper, c.args.entry) v) (sym c.if-value-eq1.true) (least_upper Upper c.args.entry refl)

pub returns-in_err-value-clause-given : goal.returns-in_err-value-clause-given
returns-in_err-value-clause-given c = rw c.from_residual.ensures tt

pub returns-in_err-value-clause-best : goal.returns-in_err-value-clause-best
returns-in_err-value-clause-best c = rw c.from_residual.ensures tt
