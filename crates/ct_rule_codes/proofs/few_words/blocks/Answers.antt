use Rattle.std.proofs.Common.{◌-◌, ◌++◌, ap, ◌∙◌, arith}
use Rattle.ct_weight_rules.proofs.DisjointWords.{side_by_side}
use Rattle.std.proofs.Math.Nat.{mul-le-mul_left}
use Rattle.ct_rule_codes.proofs.FewWords.{blocks_step}
use Rattle.ct_rule_codes.proofs.few_words.blocks.Goals as goal

pub loop-left-preserved : goal.loop-left-preserved
loop-left-preserved c =
    let w = c.args.w in
    let left = c.loop-left.left in
    let within = c.loop-left.invariant.0 in
    let some = c.loop-left-test.true in
    let most = mul-le-mul_left w within in
    let all = c.requires in (
      omega arith,
      ap (λ words. words ++ side_by_side w (left - 1)) c.in_ok-push.ensures.items
          ∙ blocks_step w left c.ones.result c.loop-left.words.items _ (omega arith) (omega arith) c.ones.ensures c.loop-left.invariant.1,
    )
