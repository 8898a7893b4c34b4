use Rattle.std.proofs.Common.{◌≡◌, ◌*◌, ◌≤◌, ◌^◌, ℕ, take}
use Rattle.ct_rule_parts.specs.Slot.{Slot}
use Rattle.ct_sample.specs.Summary.{AreBest, tally_of}
use Rattle.ct_sample.proofs.tally.tally_of.Given as goal

abbrev pub invariant-loop-entry : goal.invariant-loop-entry
invariant-loop-entry l =
    ((best : Slot → ℕ) → AreBest l.table.supports best → l.tally ≡ tally_of best (take l.entry-index l.entries)) × (l.tally.equal ≤ l.entry-index)
    × (l.tally.lower ≤ l.entry-index * 2 ^ 32) × (l.tally.upper ≤ l.entry-index * 2 ^ 32)
