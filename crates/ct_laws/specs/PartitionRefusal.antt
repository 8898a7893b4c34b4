-- Why lists of words are no classes of a partition: each reason by its plain condition, which holds where those of the reasons before it don't.
-- Places number the words through all classes.
use Rattle.std.specs.Prelude.{◌≡◌, ◌⊎◌, ℕ, ◌<◌, ◌≤◌, ◌==◌, List, length, All}
use Rattle.ct_words.specs.PairProducts.{all_places}
use Rattle.ct_words.specs.declared.entry.Entry.{Entry}
use Rattle.ct_words.specs.declared.fault.TheConstants.{MAX_WORDS}
use Rattle.ct_words.specs.Pairs.{IsLeastPair, NoPair}
use Rattle.ct_classes.specs.declared.fault.PartitionFault.{PartitionFault}
use Rattle.ct_classes.specs.declared.fault.PartitionFault.TheVariants as partition
use Rattle.ct_classes.specs.declared.fault.TheConstants.{MAX_CLASSES}
use Rattle.ct_classes.specs.Partition.{words_of_classes}
use Rattle.ct_partitions.specs.Check.{class_at, need, distance_at, is_close, counted}
use Rattle.ct_laws.specs.Weights.{HaveWeight, IsFirstOfOtherWeight}
use Rattle.ct_kind.specs.declared.fault.SubmitFault.{SubmitFault}
use Rattle.ct_kind.specs.declared.fault.SubmitFault.TheVariants as fault

-- there are 1 to MAX_CLASSES classes
abbrev pub HasRightCount : List (List ℕ) → Type 0
HasRightCount classes = (1 ≤ length classes) × (length classes ≤ MAX_CLASSES)

-- each class has a word
abbrev pub HasNoEmptyClass : List (List ℕ) → Type 0
HasNoEmptyClass classes = All (λ c. 1 ≤ length c) classes

-- the number of classes is right, each has a word, and all have at most MAX_WORDS
abbrev pub HasRightSizes : List (List ℕ) → Type 0
HasRightSizes classes = HasRightCount classes × HasNoEmptyClass classes × (length (words_of_classes classes) ≤ MAX_WORDS)

-- so many classes are none or too many; or else 0, where a class has no word; or else so many words, as far as 64 bits count, are too many
abbrev pub IsWrongSize : List (List ℕ) → ℕ → Type 0
IsWrongSize classes count =
    (((length classes ≡ 0) ⊎ (MAX_CLASSES < length classes)) × (count ≡ length classes))
    ⊎ (HasRightCount classes × ¬ HasNoEmptyClass classes × (count ≡ 0))
    ⊎ (HasRightCount classes × HasNoEmptyClass classes × (MAX_WORDS < length (words_of_classes classes)) × (count ≡ counted (length (words_of_classes classes))))

-- no two places hold equal words
abbrev pub AreDifferent : List (List ℕ) → Type 0
AreDifferent classes = NoPair (λ x y. x == y) (words_of_classes classes)

-- i and j are the least places whose words are closer than they need to be, of these classes, and they have this distance and need that one
abbrev pub IsLeastClose : Entry → ℕ → List (List ℕ) → ℕ → ℕ → ℕ → ℕ → ℕ → ℕ → Type 0
IsLeastClose e between classes i j apart class_i class_j needed =
    IsLeastPair (is_close e.n e.d between classes) (all_places (length (words_of_classes classes))) i j × (apart ≡ distance_at e.n classes i j)
    × (class_i ≡ class_at classes i) × (class_j ≡ class_at classes j) × (needed ≡ need e.d between classes i j)

-- the lists are no classes of a partition for this reason: a wrong number; the first word without the weight; the least two places with equal
-- words; the least two whose words are closer than they need to be
abbrev pub IsClassesFault : Entry → ℕ → List (List ℕ) → PartitionFault → Type 0
IsClassesFault e between classes (partition.Size count) = IsWrongSize classes count
IsClassesFault e between classes (partition.Weight i) = HasRightSizes classes × IsFirstOfOtherWeight e (words_of_classes classes) i
IsClassesFault e between classes (partition.Repeated i j) =
    HasRightSizes classes × HaveWeight e (words_of_classes classes) × IsLeastPair (λ x y. x == y) (words_of_classes classes) i j
IsClassesFault e between classes (partition.Close i j apart class_i class_j needed) =
    HasRightSizes classes × HaveWeight e (words_of_classes classes) × AreDifferent classes × IsLeastClose e between classes i j apart class_i class_j needed
IsClassesFault e between classes partition.Memory = ⊥

-- evidence of kind partition is refused for this reason
abbrev pub IsPartitionRefusal : Entry → ℕ → List (List ℕ) → SubmitFault → Type 0
IsPartitionRefusal e between classes (fault.Partition reason) = IsClassesFault e between classes reason
IsPartitionRefusal e between classes reason = ⊥
