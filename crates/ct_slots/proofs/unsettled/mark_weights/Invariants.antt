use Rattle.std.proofs.Common.{ℕ, ◌<◌}
use Rattle.ct_words.specs.Entry.{constant_weight}
use Rattle.ct_rule_parts.specs.Slot.{Slot}
use Rattle.ct_slots.specs.Worklist.{IsMarked, IsMarkedOrSettled}
use Rattle.ct_slots.proofs.unsettled.mark_weights.Given as goal

-- the smaller weights are marked
abbrev pub invariant-loop-w : goal.invariant-loop-w
invariant-loop-w l = record {
  marked : (w : ℕ) → w < l.w → IsMarkedOrSettled l.bounds l.work (l.side, constant_weight l.n l.d w);
  kept : (t : Slot) → IsMarked l.fn.work t → IsMarked l.work t;
}
