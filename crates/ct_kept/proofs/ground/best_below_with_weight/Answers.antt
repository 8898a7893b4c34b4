use Rattle.std.proofs.Common.{refl}
use Rattle.ct_words.specs.Entry.{constant_weight}
use Rattle.ct_rules.specs.declared.rule.Rule.TheVariants.{M2}
use Rattle.ct_kept.proofs.GroundBest.{best_of_two}
use Rattle.ct_kept.proofs.ground.best_below_with_weight.Goals as goal

pub returns-clause-best : goal.returns-clause-best
returns-clause-best c =
    best_of_two (constant_weight c.args.n c.args.d c.args.w) M2 c.first_ground-first.result.value c.better_ground-disjoint.result.value refl
    c.first_ground-first.ensures.within c.better_ground-disjoint.ensures.no_worse c.better_ground-disjoint.ensures.within
    c.better_class.result.value c.better_class.ensures.no_worse c.better_class.ensures.within
