use Rattle.std.proofs.Common.{◌^◌, ◌<◌, All, take}
use Rattle.ct_classes.specs.Partition.{word_lists, words_of_classes}
use Rattle.ct_math_tests.proofs.products.are_of_length.Given as goal

abbrev pub invariant-loop-class : goal.invariant-loop-class
invariant-loop-class l = All (λ x. x < 2 ^ l.n) (words_of_classes (word_lists (take l.class-index l.classes)))
