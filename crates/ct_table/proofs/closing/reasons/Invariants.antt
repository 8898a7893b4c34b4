-- The reasons of the entries so far.
use Rattle.std.proofs.Common.{◌≡◌, map, take}
use Rattle.ct_rule_parts.specs.Entries.{listed}
use Rattle.ct_rule_parts.specs.Parts.{slots_on}
use Rattle.ct_kept.specs.Kept.{reason_of}
use Rattle.ct_table.proofs.closing.reasons.Given as goal

abbrev pub invariant-loop-place : goal.invariant-loop-place
invariant-loop-place l = l.from.items ≡ map (reason_of l.kept) (slots_on l.side (take l.place (listed l.entries)))
