use Rattle.std.proofs.Common.{◌≡◌, ◌≤◌, ◌++◌}
use Rattle.ct_weight_rules.proofs.DisjointWords.{side_by_side}
use Rattle.ct_rule_codes.proofs.few_words.blocks.Given as goal

abbrev pub invariant-loop-left : goal.invariant-loop-left
invariant-loop-left l =
    (l.left ≤ l.fn.count) × (l.words.items ++ side_by_side l.fn.w l.left ≡ side_by_side l.fn.w l.fn.count)

abbrev pub decreases-loop-left : goal.decreases-loop-left
decreases-loop-left l = l.left
