-- Partitions: codes that are put together from codes of a greater distance, their classes (van Pul and Etzion 1989; Brouwer, Shearer,
-- Sloane and Smith 1990).
use Rattle.std.specs.Prelude.{ℕ, ◌≤◌, List, length, map, All, Option, Vec}
use Rattle.std.specs.List.{flat_map}
use Rattle.std.specs.declared.alloc.Global.{Global}
use Rattle.ct_words.specs.declared.entry.Entry.{Entry}
use Rattle.ct_words.specs.declared.fault.TheConstants.{MAX_WORDS}
use Rattle.ct_words.specs.Entry.{IsEntry}
use Rattle.ct_words.specs.Code.{IsCode}
use Rattle.ct_classes.specs.declared.fault.TheConstants.{MAX_CLASSES}

-- vectors of words as lists of words
abbrev pub word_lists : List (Vec ℕ Global) → List (List ℕ)
word_lists classes = map (λ c. c.items) classes

-- the words of all classes, one class after the other
abbrev pub words_of_classes : List (List ℕ) → List ℕ
words_of_classes classes = flat_map (λ c. c) classes

-- a partition of length n: each class is a code of distance d, and all words together are a code of distance `between`; each word has the
-- weight, where one is given
pub record IsPartition (n d : ℕ) (w : Option ℕ) (between : ℕ) (classes : List (List ℕ)) : Type 0 where
  pub classes_are_codes : All (IsCode n d w) classes
  pub union_is_code : IsCode n between w (words_of_classes classes)

-- a partition as callers see it: the entry of its classes, the distance between words of different classes, and the classes
pub record PartitionValue : Type 0 where
  pub entry : Entry
  pub between : ℕ
  pub classes : List (List ℕ)

-- the value is a partition: the entry is of the table, the distance between classes at most that of a class, the numbers of classes and of
-- words are within the limits, no class is empty, and the classes are a partition
pub record IsSoundPartition (p : PartitionValue) : Type 0 where
  pub entry : IsEntry p.entry
  pub between_in_range : (1 ≤ p.between) × (p.between ≤ p.entry.d)
  pub class_count : (1 ≤ length p.classes) × (length p.classes ≤ MAX_CLASSES)
  pub no_empty_class : All (λ c. 1 ≤ length c) p.classes
  pub few_words : length (words_of_classes p.classes) ≤ MAX_WORDS
  pub partition : IsPartition p.entry.n p.entry.d p.entry.w p.between p.classes
