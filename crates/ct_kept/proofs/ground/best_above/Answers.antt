use Rattle.std.proofs.Common.{refl}
use Rattle.ct_words.specs.Entry.{unrestricted}
use Rattle.ct_rules.specs.declared.rule.Rule.TheVariants.{U1, U2, U3}
use Rattle.ct_kept.proofs.GroundBest.{best_of_four}
use Rattle.ct_kept.proofs.ground.best_above.Goals as goal

pub returns-clause-best : goal.returns-clause-best
returns-clause-best c =
    best_of_four (unrestricted c.args.n c.args.d) U1 U2 U3 c.first_ground-first.result.value c.better_ground-far.result.value
    c.better_ground-plotkin.result.value c.better_ground.result.value refl c.first_ground-first.ensures.within
    c.better_ground-far.ensures.no_worse c.better_ground-far.ensures.within c.better_ground-plotkin.ensures.no_worse
    c.better_ground-plotkin.ensures.within c.better_ground.ensures.no_worse c.better_ground.ensures.within

pub returns-in-Some-clause-best : goal.returns-in-Some-clause-best
returns-in-Some-clause-best c = c.in-Some.ensures.best
