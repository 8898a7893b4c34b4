use Rattle.std.proofs.Common.{◌≡◌, ℕ, ◌<◌, true, nat_lt, length, take}
use Rattle.ct_words.specs.Word.{distance}
use Rattle.ct_classes.specs.Partition.{word_lists, words_of_classes}
use Rattle.ct_partitions.specs.Check.{is_close}
use Rattle.ct_partitions.proofs.LeastLemmas.{at_places}
use Rattle.ct_partitions.proofs.close.first_close_places.Given as goal

-- the words of the classes so far come before `start`, and those of them that are too close to a later one are closer than words of different classes need to be
abbrev pub invariant-loop-class : goal.invariant-loop-class
invariant-loop-class l = record {
  place : l.start ≡ length (words_of_classes (word_lists (take l.class-index l.classes)));
  only : (k m : ℕ) → k < l.start → k < m → m < length l.words → is_close 32 l.d l.between (word_lists l.classes) k m ≡ true
      → at_places (λ x y. nat_lt (distance 32 x y) l.between) l.words k m ≡ true;
}
