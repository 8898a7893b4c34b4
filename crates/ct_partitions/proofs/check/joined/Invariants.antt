use Rattle.std.proofs.Common.{◌≡◌, take}
use Rattle.ct_classes.specs.Partition.{word_lists, words_of_classes}
use Rattle.ct_partitions.proofs.check.joined.Given as goal

abbrev pub invariant-loop-class : goal.invariant-loop-class
invariant-loop-class l = l.words.items ≡ words_of_classes (word_lists (take l.class-index l.classes))
