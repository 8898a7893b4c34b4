use Rattle.std.proofs.Common.{◌≡◌, ◌==◌, drop, length}
use Rattle.std.specs.List.{list_any}
use Rattle.ct_classes.specs.Partition.{word_lists}
use Rattle.ct_partitions.proofs.check.has_empty_class.Given as goal

abbrev pub invariant-loop-class : goal.invariant-loop-class
invariant-loop-class l =
    list_any (λ c. length c == 0) (word_lists l.classes) ≡ list_any (λ c. length c == 0) (word_lists (drop l.class-index l.classes))
