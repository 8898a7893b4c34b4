use Rattle.std.proofs.Common.{sym, subst}
use Rattle.ct_words.specs.declared.claim.Side.{Side}
use Rattle.ct_words.specs.Entry.{constant_weight}
use Rattle.ct_kept.specs.Kept.{IsGroundBound}
use Rattle.ct_kept.proofs.ground.best_with_weight.Goals as goal

pub returns-in-Lower-clause-best : goal.returns-in-Lower-clause-best
returns-in-Lower-clause-best c =
    subst (λ (side : Side). IsGroundBound (side, constant_weight c.args.n c.args.d c.args.w) c.best_below_with_weight.result.value) (sym c.in-Lower.is)
    c.best_below_with_weight.ensures.best

pub returns-in-Upper-clause-best : goal.returns-in-Upper-clause-best
returns-in-Upper-clause-best c =
    subst (λ (side : Side). IsGroundBound (side, constant_weight c.args.n c.args.d c.args.w) c.best_above_with_weight.result.value) (sym c.in-Upper.is)
    c.best_above_with_weight.ensures.best
