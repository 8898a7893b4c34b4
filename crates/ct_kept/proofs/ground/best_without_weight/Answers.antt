use Rattle.std.proofs.Common.{sym, subst}
use Rattle.ct_words.specs.declared.claim.Side.{Side}
use Rattle.ct_words.specs.Entry.{unrestricted}
use Rattle.ct_kept.specs.Kept.{IsGroundBound}
use Rattle.ct_kept.proofs.ground.best_without_weight.Goals as goal

pub returns-in-Lower-clause-best : goal.returns-in-Lower-clause-best
returns-in-Lower-clause-best c =
    subst (λ (side : Side). IsGroundBound (side, unrestricted c.args.n c.args.d) c.best_below.result.value) (sym c.in-Lower.is) c.best_below.ensures.best

pub returns-in-Upper-clause-best : goal.returns-in-Upper-clause-best
returns-in-Upper-clause-best c =
    subst (λ (side : Side). IsGroundBound (side, unrestricted c.args.n c.args.d) c.best_above.result.value) (sym c.in-Upper.is) c.best_above.ensures.best
