use Rattle.std.proofs.Common.{ℕ, ◌<◌, ◌≤◌}
use Rattle.ct_words.specs.Entry.{constant_weight}
use Rattle.ct_rule_parts.specs.Slot.{Slot}
use Rattle.ct_slots.specs.Worklist.{IsMarked, IsMarkedOrSettled}
use Rattle.ct_slots.proofs.unsettled.mark_lengths.Given as goal

-- the smaller lengths are marked
abbrev pub invariant-loop-n : goal.invariant-loop-n
invariant-loop-n l = record {
  from : 1 ≤ l.n;
  marked : (n : ℕ) → n < l.n → 1 ≤ n → (w : ℕ) → w ≤ n → IsMarkedOrSettled l.bounds l.work (l.side, constant_weight n l.d w);
  kept : (t : Slot) → IsMarked l.fn.work t → IsMarked l.work t;
}
