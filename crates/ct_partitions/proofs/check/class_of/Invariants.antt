use Rattle.std.proofs.Common.{◌≡◌, ◌+◌, drop}
use Rattle.ct_classes.specs.Partition.{word_lists}
use Rattle.ct_partitions.specs.Check.{class_at}
use Rattle.ct_partitions.proofs.check.class_of.Given as goal

abbrev pub invariant-loop-number : goal.invariant-loop-number
invariant-loop-number l = class_at (word_lists l.classes) l.fn.place ≡ l.number + class_at (word_lists (drop l.number l.classes)) l.rest
