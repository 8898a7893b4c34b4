-- The parts of a product's distance and size.
use Rattle.std.specs.Prelude.{ℕ, ◌+◌, ◌-◌, ◌*◌, min, List, length, map, fold, drop, sum_by, slice_index_or}
use Rattle.std.specs.List.{zip}
use Rattle.ct_classes.specs.Partition.{PartitionValue}
use Rattle.ct_partitions.specs.Product.{Factors, partition_weight, pair_distance, weight_gap, no_partition}

-- no pair: what stands at no place
abbrev pub no_pair : Factors
no_pair = (no_partition, no_partition)

-- the least of a number, the distance of the pair at a place, and those of this pair and each later one
abbrev pub nearest_at : List Factors → ℕ → ℕ → ℕ
nearest_at pairs place least =
    fold min (min least (pair_distance (slice_index_or pairs place no_pair))) (map (weight_gap (slice_index_or pairs place no_pair))
    (drop (place + 1) pairs))

-- twice the difference of the weights of two partitions
abbrev pub weights_apart : PartitionValue → PartitionValue → ℕ
weights_apart p q = 2 * ((partition_weight p - partition_weight q) + (partition_weight q - partition_weight p))

-- how many words the product of two partitions has
abbrev pub size_of_pair : PartitionValue → PartitionValue → ℕ
size_of_pair p q = sum_by (λ c. length c.0 * length c.1) (zip p.classes q.classes)
