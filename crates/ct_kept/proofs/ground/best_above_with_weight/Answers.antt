use Rattle.std.proofs.Common.{refl}
use Rattle.ct_words.specs.Entry.{constant_weight}
use Rattle.ct_rules.specs.declared.rule.Rule.TheVariants.{V1, V2, V8}
use Rattle.ct_kept.proofs.GroundBest.{best_of_four}
use Rattle.ct_kept.proofs.ground.best_above_with_weight.Goals as goal

pub returns-clause-best : goal.returns-clause-best
returns-clause-best c =
    best_of_four (constant_weight c.args.n c.args.d c.args.w) V1 V2 V8 c.first_ground-first.result.value c.better_ground-far.result.value
    c.better_ground-disjoint.result.value c.better_ground.result.value refl c.first_ground-first.ensures.within
    c.better_ground-far.ensures.no_worse c.better_ground-far.ensures.within c.better_ground-disjoint.ensures.no_worse
    c.better_ground-disjoint.ensures.within c.better_ground.ensures.no_worse c.better_ground.ensures.within

pub returns-in-Some-clause-best : goal.returns-in-Some-clause-best
returns-in-Some-clause-best c = c.in-Some.ensures.best
