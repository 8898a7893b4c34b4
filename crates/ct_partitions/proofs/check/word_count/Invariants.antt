use Rattle.std.proofs.Common.{◌≡◌, take, length}
use Rattle.ct_classes.specs.Partition.{word_lists, words_of_classes}
use Rattle.ct_partitions.specs.Check.{counted}
use Rattle.ct_partitions.proofs.check.word_count.Given as goal

abbrev pub invariant-loop-class : goal.invariant-loop-class
invariant-loop-class l = l.count ≡ counted (length (words_of_classes (word_lists (take l.class-index l.classes))))
