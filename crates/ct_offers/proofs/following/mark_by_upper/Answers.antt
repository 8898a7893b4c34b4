use Rattle.std.proofs.Common.{[], ◌∷◌, All, drop, refl}
use Rattle.std.proofs.lemmas.Result.{IfOk-from_err, on_ok_weaker}
use Rattle.ct_rules.specs.declared.rule.Rule.TheVariants.{U4, U5, U6, U7, U8}
use Rattle.ct_rules.specs.declared.rule.TheConstants.{UPPER_RULES}
use Rattle.ct_rules.specs.Rule.{row_of}
use Rattle.ct_offers.specs.Inside.Marking.{IsTestedFrom}
use Rattle.ct_offers.proofs.FollowingLemmas.{followed_none, followed_more}
use Rattle.ct_offers.proofs.following.mark_by_upper.Goals as goal

pub returns-clause-tested : goal.returns-clause-tested
returns-clause-tested c =
    let supports = c.args.supports.now in
    let bounds = c.args.bounds.now in
    let e = c.args.entry in
    let work = c.args.work.now in
    let one = followed_more supports bounds e work c.mark_by_rule.new.work [] U4 (followed_none supports bounds e work) c.in_ok-mark_by_rule.ensures.kept c.in_ok-mark_by_rule.ensures.tested in
    let two = followed_more supports bounds e c.mark_by_rule.new.work c.mark_by_rule-2.new.work (U4 ∷ []) U5 one c.in_ok-mark_by_rule-2.ensures.kept c.in_ok-mark_by_rule-2.ensures.tested in
    let three = followed_more supports bounds e c.mark_by_rule-2.new.work c.mark_by_rule-3.new.work (U4 ∷ U5 ∷ []) U6 two c.in_ok-mark_by_rule-3.ensures.kept c.in_ok-mark_by_rule-3.ensures.tested in
    let four = followed_more supports bounds e c.mark_by_rule-3.new.work c.mark_by_rule-4.new.work (U4 ∷ U5 ∷ U6 ∷ []) U7 three c.in_ok-mark_by_rule-4.ensures.kept c.in_ok-mark_by_rule-4.ensures.tested in
    on_ok_weaker c.mark_by_rule-5.result
    (λ (tested : IsTestedFrom supports bounds c.mark_by_rule-5.new.work e U8).
    followed_more supports bounds e c.mark_by_rule-4.new.work c.mark_by_rule-5.new.work (U4 ∷ U5 ∷ U6 ∷ U7 ∷ []) U8 four c.mark_by_rule-5.ensures.kept tested)
    c.mark_by_rule-5.ensures.tested

pub returns-clause-kept : goal.returns-clause-kept
returns-clause-kept c = λ t entry marked.
    c.mark_by_rule-5.ensures.kept t entry
    (c.in_ok-mark_by_rule-4.ensures.kept t entry
    (c.in_ok-mark_by_rule-3.ensures.kept t entry
    (c.in_ok-mark_by_rule-2.ensures.kept t entry
    (c.in_ok-mark_by_rule.ensures.kept t entry marked))))

-- where memory runs out
pub returns-in_err-mark_by_rule : goal.returns-in_err-mark_by_rule
returns-in_err-mark_by_rule c = record {
  tested = IfOk-from_err c.from_residual.result
      (λ _. All (IsTestedFrom c.args.supports.now c.args.bounds.now c.mark_by_rule.new.work c.args.entry) (drop 4 UPPER_RULES))
      c.from_residual.ensures.0;
  kept = λ t entry marked.
      c.in_err-mark_by_rule.ensures.kept t entry marked;
}

pub returns-in_err-mark_by_rule-2 : goal.returns-in_err-mark_by_rule-2
returns-in_err-mark_by_rule-2 c = record {
  tested = IfOk-from_err c.from_residual-in_err-mark_by_rule-2.result
      (λ _. All (IsTestedFrom c.args.supports.now c.args.bounds.now c.mark_by_rule-2.new.work c.args.entry) (drop 4 UPPER_RULES))
      c.from_residual-in_err-mark_by_rule-2.ensures.0;
  kept = λ t entry marked.
      c.in_err-mark_by_rule-2.ensures.kept t entry
      (c.in_ok-mark_by_rule.ensures.kept t entry marked);
}

pub returns-in_err-mark_by_rule-3 : goal.returns-in_err-mark_by_rule-3
returns-in_err-mark_by_rule-3 c = record {
  tested = IfOk-from_err c.from_residual-in_err-mark_by_rule-3.result
      (λ _. All (IsTestedFrom c.args.supports.now c.args.bounds.now c.mark_by_rule-3.new.work c.args.entry) (drop 4 UPPER_RULES))
      c.from_residual-in_err-mark_by_rule-3.ensures.0;
  kept = λ t entry marked.
      c.in_err-mark_by_rule-3.ensures.kept t entry
      (c.in_ok-mark_by_rule-2.ensures.kept t entry
      (c.in_ok-mark_by_rule.ensures.kept t entry marked));
}

pub returns-in_err-mark_by_rule-4 : goal.returns-in_err-mark_by_rule-4
returns-in_err-mark_by_rule-4 c = record {
  tested = IfOk-from_err c.from_residual-in_err-mark_by_rule-4.result
      (λ _. All (IsTestedFrom c.args.supports.now c.args.bounds.now c.mark_by_rule-4.new.work c.args.entry) (drop 4 UPPER_RULES))
      c.from_residual-in_err-mark_by_rule-4.ensures.0;
  kept = λ t entry marked.
      c.in_err-mark_by_rule-4.ensures.kept t entry
      (c.in_ok-mark_by_rule-3.ensures.kept t entry
      (c.in_ok-mark_by_rule-2.ensures.kept t entry
      (c.in_ok-mark_by_rule.ensures.kept t entry marked)));
}

-- each rule has neither numbers nor a support
pub mark_by_rule-requires : goal.mark_by_rule-requires
unfolding row_of
mark_by_rule-requires c = record { entry = c.requires.entry; alone = refl; stand = c.requires.stand; true_bounds = c.requires.true_bounds }

pub mark_by_rule-requires-2 : goal.mark_by_rule-requires-2
unfolding row_of
mark_by_rule-requires-2 c = record { entry = c.requires.entry; alone = refl; stand = c.requires.stand; true_bounds = c.requires.true_bounds }

pub mark_by_rule-requires-3 : goal.mark_by_rule-requires-3
unfolding row_of
mark_by_rule-requires-3 c = record { entry = c.requires.entry; alone = refl; stand = c.requires.stand; true_bounds = c.requires.true_bounds }

pub mark_by_rule-requires-4 : goal.mark_by_rule-requires-4
unfolding row_of
mark_by_rule-requires-4 c = record { entry = c.requires.entry; alone = refl; stand = c.requires.stand; true_bounds = c.requires.true_bounds }

pub mark_by_rule-requires-5 : goal.mark_by_rule-requires-5
unfolding row_of
mark_by_rule-requires-5 c = record { entry = c.requires.entry; alone = refl; stand = c.requires.stand; true_bounds = c.requires.true_bounds }
