use Rattle.std.proofs.Common.{Some, None}
use Rattle.std.proofs.lemmas.Result.{on_ok_weaker}
use Rattle.ct_words.specs.declared.claim.Side.TheVariants.{Lower, Upper}
use Rattle.ct_offers.proofs.FollowingLemmas.{followed_at}
use Rattle.ct_offers.proofs.following.mark_by_resting.Goals as goal

pub returns-in-Lower-None : goal.returns-in-Lower-None
returns-in-Lower-None c = record {
  tested =
      on_ok_weaker c.mark_by_lower.result
      (followed_at c.args.supports.now c.args.bounds.now c.mark_by_lower.new.work c.args.side Lower c.args.entry None c.in-Lower-None.is-0 c.in-Lower-None.is-1)
      c.mark_by_lower.ensures.tested;
  kept = c.mark_by_lower.ensures.kept;
}

pub returns-in-Lower-Some : goal.returns-in-Lower-Some
returns-in-Lower-Some c = record {
  tested =
      on_ok_weaker c.mark_by_lower_with_weight.result
      (followed_at c.args.supports.now c.args.bounds.now c.mark_by_lower_with_weight.new.work c.args.side Lower c.args.entry (Some _) c.in-Lower-Some.is-0 c.in-Lower-Some.is-1)
      c.mark_by_lower_with_weight.ensures.tested;
  kept = c.mark_by_lower_with_weight.ensures.kept;
}

pub returns-in-Upper-None : goal.returns-in-Upper-None
returns-in-Upper-None c = record {
  tested =
      on_ok_weaker c.mark_by_upper.result
      (followed_at c.args.supports.now c.args.bounds.now c.mark_by_upper.new.work c.args.side Upper c.args.entry None c.in-Upper-None.is-0 c.in-Upper-None.is-1)
      c.mark_by_upper.ensures.tested;
  kept = c.mark_by_upper.ensures.kept;
}

pub returns-in-Upper-Some : goal.returns-in-Upper-Some
returns-in-Upper-Some c = record {
  tested =
      on_ok_weaker c.mark_by_upper_with_weight.result
      (followed_at c.args.supports.now c.args.bounds.now c.mark_by_upper_with_weight.new.work c.args.side Upper c.args.entry (Some _) c.in-Upper-Some.is-0 c.in-Upper-Some.is-1)
      c.mark_by_upper_with_weight.ensures.tested;
  kept = c.mark_by_upper_with_weight.ensures.kept;
}

pub mark_by_lower-requires : goal.mark_by_lower-requires
mark_by_lower-requires c = record { entry = c.requires.entry; stand = c.requires.stand; true_bounds = c.requires.true_bounds }

pub mark_by_lower_with_weight-requires : goal.mark_by_lower_with_weight-requires
mark_by_lower_with_weight-requires c = record { entry = c.requires.entry; stand = c.requires.stand; true_bounds = c.requires.true_bounds }

pub mark_by_upper-requires : goal.mark_by_upper-requires
mark_by_upper-requires c = record { entry = c.requires.entry; stand = c.requires.stand; true_bounds = c.requires.true_bounds }

pub mark_by_upper_with_weight-requires : goal.mark_by_upper_with_weight-requires
mark_by_upper_with_weight-requires c = record { entry = c.requires.entry; stand = c.requires.stand; true_bounds = c.requires.true_bounds }
