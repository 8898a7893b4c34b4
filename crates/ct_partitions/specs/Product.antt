-- Products of partitions (Brouwer, Shearer, Sloane and Smith 1990; van Pul and Etzion 1989): words of the i-th class of one partition, each
-- followed by the words of the i-th class of another.
use Rattle.std.specs.Prelude.{◌≡◌, ℕ, ◌+◌, ◌-◌, ◌*◌, ◌<◌, ◌≤◌, min, List, [], ◌∷◌, ◌++◌, length, map, fold, sum_by, slice_index_or, All, AllPairs, Option, Some, IfSome, IsSome}
use Rattle.std.specs.List.{flat_map, zip}
use Rattle.std.specs.Option.{unwrap_or}
use Rattle.ct_words.specs.Entry.{unrestricted}
use Rattle.ct_words.specs.Constructions.Joined.{followed_by}
use Rattle.ct_words.specs.Constructions.Juxtaposed.{added_weights}
use Rattle.ct_classes.specs.Partition.{PartitionValue, IsSoundPartition}

-- two partitions
abbrev pub Factors : Type 0
Factors = PartitionValue × PartitionValue

-- each word x of the first list followed by each word y of the second, whose words have length m
abbrev pub all_followed : ℕ → List ℕ → List ℕ → List ℕ
all_followed m xs ys = flat_map (λ x. map (λ y. followed_by m x y) ys) xs

-- the same for the i-th list of each, as long as there are both
abbrev pub class_products : ℕ → List (List ℕ) → List (List ℕ) → List ℕ
class_products m cs ds = flat_map (λ p. all_followed m p.0 p.1) (zip cs ds)

-- the product of pairs of partitions
abbrev pub product : List Factors → List ℕ
product pairs = flat_map (λ p. class_products p.1.entry.n p.0.classes p.1.classes) pairs

-- how many words it has: the products of the sizes of the i-th classes, added up
abbrev pub product_size : List Factors → ℕ
product_size pairs = sum_by (λ p. sum_by (λ c. length c.0 * length c.1) (zip p.0.classes p.1.classes)) pairs

-- the weight of the words of a partition, 0 where it has none
abbrev pub partition_weight : PartitionValue → ℕ
partition_weight p = unwrap_or p.entry.w 0

-- the distance of the product of one pair (X,Y): the least of d(X), d(Y), and between(X) + between(Y)
abbrev pub pair_distance : Factors → ℕ
pair_distance p = min (min p.0.entry.d p.1.entry.d) (p.0.between + p.1.between)

-- the distance of the words of two pairs (X,Y) and (X',Y') whose weights add up to the same: 2·|w(X) - w(X')|
abbrev pub weight_gap : Factors → Factors → ℕ
weight_gap p q = 2 * ((partition_weight p.0 - partition_weight q.0) + (partition_weight q.0 - partition_weight p.0))

-- the distances of each pair, and of each two pairs at different places
abbrev pub distances : List Factors → List ℕ
distances [] = []
distances (p ∷ ps) = pair_distance p ∷ (map (weight_gap p) ps ++ distances ps)

-- the least of some numbers, 0 where there is none
abbrev pub least : List ℕ → ℕ
least [] = 0
least (x ∷ xs) = fold min x xs

-- the distance of a product
abbrev pub product_distance : List Factors → ℕ
product_distance pairs = least (distances pairs)

-- these are pairs of partitions with a product of length n, and of weight w where one is given: there is a pair, the first partitions have
-- one length, the lengths of each pair add up to n, and its weights to w; where there are two pairs or more, a weight is given
pub record AreFactors (n : ℕ) (w : Option ℕ) (pairs : List Factors) : Type 0 where
  pub some : 1 ≤ length pairs
  pub one_length : AllPairs (λ p q. p.0.entry.n ≡ q.0.entry.n) pairs
  pub lengths : All (λ p. p.0.entry.n + p.1.entry.n ≡ n) pairs
  pub weights : IfSome w (λ k. All (λ p. added_weights p.0.entry.w p.1.entry.w ≡ Some k) pairs)
  pub weighted : 2 ≤ length pairs → IsSome w

-- both are partitions
abbrev pub AreSound : Factors → Type 0
AreSound p = IsSoundPartition p.0 × IsSoundPartition p.1

-- no partition: what stands at no place
abbrev pub no_partition : PartitionValue
no_partition = record { entry = unrestricted 0 0; between = 0; classes = [] }

-- the partitions at pairs of places
abbrev pub pairs_at : List PartitionValue → List (ℕ × ℕ) → List Factors
pairs_at parts places = map (λ p. (slice_index_or parts p.0 no_partition, slice_index_or parts p.1 no_partition)) places

-- both numbers of each pair are places of a list of so many partitions
abbrev pub ArePairsOfPlaces : ℕ → List (ℕ × ℕ) → Type 0
ArePairsOfPlaces count places = All (λ p. (p.0 < count) × (p.1 < count)) places
