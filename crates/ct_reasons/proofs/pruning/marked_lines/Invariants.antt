use Rattle.std.proofs.Common.{◌≡◌, take}
use Rattle.ct_derive.specs.Pruning.{pruned, unmarked, ArePlacesLeft}
use Rattle.ct_reasons.proofs.pruning.marked_lines.Given as goal

abbrev pub invariant-loop-place : goal.invariant-loop-place
invariant-loop-place l = record {
  lines : l.lines.items ≡ pruned (unmarked l.marks) (take l.place l.table.lines);
  moved : ArePlacesLeft (unmarked l.marks) l.place l.moved.items;
}
