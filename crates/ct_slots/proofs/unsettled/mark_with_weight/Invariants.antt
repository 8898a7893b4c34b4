use Rattle.std.proofs.Common.{ℕ, ◌<◌}
use Rattle.ct_rule_parts.specs.Slot.{Slot}
use Rattle.ct_slots.specs.Worklist.{IsMarked}
use Rattle.ct_slots.specs.Inside.Marked.{even_distance_at, AreMarkedWithWeight}
use Rattle.ct_slots.proofs.unsettled.mark_with_weight.Given as goal

-- the distances at smaller places are marked
abbrev pub invariant-loop-k : goal.invariant-loop-k
invariant-loop-k l = record {
  marked : (k : ℕ) → k < l.k → AreMarkedWithWeight l.bounds l.work l.side (even_distance_at l.side k);
  kept : (t : Slot) → IsMarked l.fn.work t → IsMarked l.work t;
}
