-- When lists of words are accepted as the classes of a partition, and the first reason why they are not. Places number the words through
-- all classes.
use Rattle.std.specs.Prelude.{ℕ, suc, ◌-◌, ◌^◌, min, ◌==◌, nat_lt, ◌||◌, not, Bool, if◌then◌else◌, List, [], ◌∷◌, length, position, slice_index, Option, Some, None}
use Rattle.std.specs.List.{list_any}
use Rattle.std.specs.Option.{option_map}
use Rattle.ct_words.specs.Word.{weight, distance}
use Rattle.ct_words.specs.PairProducts.{all_places}
use Rattle.ct_words.specs.declared.entry.Entry.{Entry}
use Rattle.ct_words.specs.declared.fault.TheConstants.{MAX_WORDS}
use Rattle.ct_words.specs.Pairs.{first_of, least_pair}
use Rattle.ct_classes.specs.declared.fault.PartitionFault.{PartitionFault}
use Rattle.ct_classes.specs.declared.fault.PartitionFault.TheVariants.{Size, Weight, Repeated, Close}
use Rattle.ct_classes.specs.declared.fault.TheConstants.{MAX_CLASSES}
use Rattle.ct_classes.specs.Partition.{words_of_classes}

-- the class of the word at a place
abbrev pub class_at : List (List ℕ) → ℕ → ℕ
class_at [] i = 0
class_at (c ∷ cs) i = if nat_lt i (length c) then 0 else suc (class_at cs (i - length c))

-- the distance that the words at two places need: d in one class, `between` in different ones
abbrev pub need : ℕ → ℕ → List (List ℕ) → ℕ → ℕ → ℕ
need d between classes i j = if class_at classes i == class_at classes j then d else between

-- the distance of the words at two places
abbrev pub distance_at : ℕ → List (List ℕ) → ℕ → ℕ → ℕ
distance_at n classes i j = distance n (slice_index (words_of_classes classes) i) (slice_index (words_of_classes classes) j)

-- whether the words at two places are closer than they need to be
abbrev pub is_close : ℕ → ℕ → ℕ → List (List ℕ) → ℕ → ℕ → Bool
is_close n d between classes i j = nat_lt (distance_at n classes i j) (need d between classes i j)

-- a number as far as 64 bits count
abbrev pub counted : ℕ → ℕ
counted k = min k (2 ^ 64 - 1)

-- the count that is wrong: the number of classes where it is 0 or above its limit, or else 0 where a class is empty, or else the number of words
-- where it is above its limit; none where there is none
abbrev pub wrong_count : List (List ℕ) → Option ℕ
wrong_count classes =
    if length classes == 0 || nat_lt MAX_CLASSES (length classes) then Some (length classes)
    else if list_any (λ c. length c == 0) classes then Some 0
    else if nat_lt MAX_WORDS (length (words_of_classes classes)) then Some (counted (length (words_of_classes classes)))
    else None

-- the first word that has not the weight of the entry
abbrev pub partition_weight_fault : ℕ → Option ℕ → List ℕ → Option PartitionFault
partition_weight_fault n None words = None
partition_weight_fault n (Some w) words = option_map Weight (position (λ x. not (weight n x == w)) words)

-- the least pair of equal words
abbrev pub partition_repeated_fault : List ℕ → Option PartitionFault
partition_repeated_fault words = option_map (λ p. Repeated p.0 p.1) (least_pair (λ x y. x == y) words)

-- the least pair of words that are closer than they need to be, their distance, their classes and what they need
abbrev pub partition_close_fault : ℕ → ℕ → ℕ → List (List ℕ) → Option PartitionFault
partition_close_fault n d between classes =
    option_map (λ p. Close p.0 p.1 (distance_at n classes p.0 p.1) (class_at classes p.0) (class_at classes p.1)
    (need d between classes p.0 p.1))
    (least_pair (is_close n d between classes) (all_places (length (words_of_classes classes))))

-- the first reason why the lists are not accepted as classes: size, weight, repeated, close, in this order; none where they are
unfoldable pub partition_fault : Entry → ℕ → List (List ℕ) → Option PartitionFault
partition_fault e between classes =
    first_of (option_map Size (wrong_count classes))
    (first_of (partition_weight_fault e.n e.w (words_of_classes classes))
    (first_of (partition_repeated_fault (words_of_classes classes)) (partition_close_fault e.n e.d between classes)))
