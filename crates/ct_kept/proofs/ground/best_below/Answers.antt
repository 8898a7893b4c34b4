use Rattle.std.proofs.Common.{refl}
use Rattle.ct_words.specs.Entry.{unrestricted}
use Rattle.ct_rules.specs.declared.rule.Rule.TheVariants.{L2}
use Rattle.ct_rule_parts.proofs.SlotLemmas.{IsNoBetter-self}
use Rattle.ct_words.specs.declared.claim.Side.TheVariants.{Lower}
use Rattle.ct_kept.proofs.GroundLemmas.{without_weight}
use Rattle.ct_kept.proofs.GroundBest.{best_of_two}
use Rattle.ct_kept.proofs.ground.best_below.Goals as goal

pub returns-clause-best : goal.returns-clause-best
returns-clause-best c =
    let value = c.better_ground.result.value in
    best_of_two (unrestricted c.args.n c.args.d) L2 c.first_ground-first.result.value value refl c.first_ground-first.ensures.within
    c.better_ground.ensures.no_worse c.better_ground.ensures.within value (IsNoBetter-self Lower value)
    (λ k. without_weight c.args.n c.args.d k value)
