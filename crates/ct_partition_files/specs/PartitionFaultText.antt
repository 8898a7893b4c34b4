-- The texts of faults of partitions.
use Rattle.std.specs.Prelude.{ℕ, List, [], ◌++◌, codes}
use Rattle.ct_text.specs.Number.{spaced}
use Rattle.ct_classes.specs.declared.fault.PartitionFault.{PartitionFault}
use Rattle.ct_classes.specs.declared.fault.PartitionFault.TheVariants as partition

-- why classes are no partition: the words count from 0 through all classes, and `close` tells their distance, their classes and what they need; want
-- of memory has no text
abbrev pub partition_fault_text : PartitionFault → List ℕ
partition_fault_text (partition.Size c) = codes "size" ++ spaced c
partition_fault_text (partition.Weight i) = codes "weight" ++ spaced i
partition_fault_text (partition.Repeated i j) = codes "repeated" ++ spaced i ++ spaced j
partition_fault_text (partition.Close i j t a b need) =
    codes "close" ++ spaced i ++ spaced j ++ spaced t ++ codes " classes" ++ spaced a ++ spaced b ++ codes " need" ++ spaced need
partition_fault_text partition.Memory = []
