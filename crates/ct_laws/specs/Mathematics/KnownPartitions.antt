-- Partitions of words of length 4 whose products are known.
use Rattle.std.specs.Prelude.{[], ◌∷◌}
use Rattle.ct_words.specs.Entry.{unrestricted, constant_weight}
use Rattle.ct_classes.specs.Partition.{PartitionValue}

-- the words of even weight in pairs of complements
abbrev pub even_pairs : PartitionValue
even_pairs = record {
  entry = unrestricted 4 4;
  between = 2;
  classes = (0b0000 ∷ 0b1111 ∷ []) ∷ (0b0011 ∷ 0b1100 ∷ []) ∷ (0b0101 ∷ 0b1010 ∷ []) ∷ (0b0110 ∷ 0b1001 ∷ []) ∷ [];
}

-- the first two pairs of them
abbrev pub two_pairs : PartitionValue
two_pairs = record { entry = unrestricted 4 4; between = 2; classes = (0b0000 ∷ 0b1111 ∷ []) ∷ (0b0011 ∷ 0b1100 ∷ []) ∷ [] }

-- two pairs of complements, of which words of different ones are at distance 1
abbrev pub near_pairs : PartitionValue
near_pairs = record { entry = unrestricted 4 4; between = 1; classes = (0b0000 ∷ 0b1111 ∷ []) ∷ (0b0001 ∷ 0b1110 ∷ []) ∷ [] }

-- the word without a one
abbrev pub no_ones : PartitionValue
no_ones = record { entry = constant_weight 4 4 0; between = 4; classes = (0b0000 ∷ []) ∷ [] }

-- the words of weight 2 in pairs of complements
abbrev pub two_ones : PartitionValue
two_ones = record {
  entry = constant_weight 4 4 2;
  between = 2;
  classes = (0b0011 ∷ 0b1100 ∷ []) ∷ (0b0101 ∷ 0b1010 ∷ []) ∷ (0b0110 ∷ 0b1001 ∷ []) ∷ [];
}

-- the word of weight 4
abbrev pub four_ones : PartitionValue
four_ones = record { entry = constant_weight 4 4 4; between = 4; classes = (0b1111 ∷ []) ∷ [] }
