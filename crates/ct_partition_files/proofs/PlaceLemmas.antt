-- Partitions and their places, as they are lent.
use Rattle.std.proofs.Common.{◌≡◌, ℕ, ◌≤◌, List, length, ap₂, sym, subst, arith}
use Rattle.ct_classes.specs.Partition.{PartitionValue}
use Rattle.ct_partitions.specs.Product.{pairs_at, ArePairsOfPlaces}

-- the places of partitions are those of the same partitions
pub places-lent : (parts own : List PartitionValue) (places given : List (ℕ × ℕ)) → parts ≡ own → places ≡ given → ArePairsOfPlaces (length own) given
    → ArePairsOfPlaces (length parts) places
places-lent parts own places given same as_given within =
    subst (λ (is : List (ℕ × ℕ)). ArePairsOfPlaces (length parts) is) (sym as_given)
    (subst (λ (ps : List PartitionValue). ArePairsOfPlaces (length ps) given) (sym same) within)

-- and so the pairs of partitions at these
pub pairs-lent : (parts own : List PartitionValue) (places given : List (ℕ × ℕ)) → parts ≡ own → places ≡ given → pairs_at parts places ≡ pairs_at own given
pairs-lent parts own places given same as_given = ap₂ pairs_at same as_given

-- past the end, where no place is past it
pub at_end : (count k : ℕ) → k ≤ count → count ≤ k → k ≡ count
at_end count k within past = omega arith
