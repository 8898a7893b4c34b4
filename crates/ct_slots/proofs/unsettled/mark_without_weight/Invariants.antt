use Rattle.std.proofs.Common.{ℕ, ◌<◌, ◌≤◌}
use Rattle.ct_rule_parts.specs.Slot.{Slot}
use Rattle.ct_slots.specs.Worklist.{IsMarked}
use Rattle.ct_slots.specs.Inside.Marked.{AreMarkedWithoutWeight}
use Rattle.ct_slots.proofs.unsettled.mark_without_weight.Given as goal

-- the smaller lengths are marked
abbrev pub invariant-loop-n : goal.invariant-loop-n
invariant-loop-n l = record {
  from : 1 ≤ l.n;
  marked : (n : ℕ) → n < l.n → 1 ≤ n → AreMarkedWithoutWeight l.bounds l.work l.side n;
  kept : (t : Slot) → IsMarked l.fn.work t → IsMarked l.work t;
}
