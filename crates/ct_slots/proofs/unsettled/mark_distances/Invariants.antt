use Rattle.std.proofs.Common.{ℕ, ◌<◌}
use Rattle.ct_words.specs.Entry.{unrestricted}
use Rattle.ct_rule_parts.specs.Slot.{Slot}
use Rattle.ct_slots.specs.Worklist.{IsMarked, IsMarkedOrSettled}
use Rattle.ct_slots.specs.Inside.Marked.{distance_at}
use Rattle.ct_slots.proofs.unsettled.mark_distances.Given as goal

-- the distances at smaller places are marked
abbrev pub invariant-loop-k : goal.invariant-loop-k
invariant-loop-k l = record {
  marked : (k : ℕ) → k < l.k → IsMarkedOrSettled l.bounds l.work (l.side, unrestricted l.n (distance_at l.side k));
  kept : (t : Slot) → IsMarked l.fn.work t → IsMarked l.work t;
}
