-- Evidence of kind product: the words of the i-th class of one partition, each followed by those of the i-th class of another, for pairs of pieces
-- that stand and are partitions.
use Rattle.std.specs.Prelude.{◌≤◌, ℕ, ◌+◌, ◌==◌, nat_lt, Bool, true, false, not, ◌||◌, ◌&&◌, if◌then◌else◌, List, [], ◌∷◌, map, All, Option, Some, None, option_map, is_some, IsSome, codes}
use Rattle.std.specs.List.{flat_map}
use Rattle.std.specs.Option.{unwrap_or}
use Rattle.ct_words.specs.declared.entry.Entry.{Entry}
use Rattle.ct_words.specs.Pairs.{first_of}
use Rattle.ct_build.specs.Build.{add_up}
use Rattle.ct_build.specs.declared.fault.BuildFault.TheVariants as build
use Rattle.ct_classes.specs.Partition.{PartitionValue}
use Rattle.ct_partitions.specs.Product.{Factors, product, product_size, product_distance, AreFactors, no_partition}
use Rattle.ct_kind.specs.Named.{NamedCode, partition_named}
use Rattle.ct_kind.specs.KindParts.{KindParts, support_from}
use Rattle.ct_kind.specs.declared.fault.SubmitFault.{SubmitFault}
use Rattle.ct_kind.specs.declared.fault.SubmitFault.TheVariants as fault

-- two ids
abbrev pub Ids : Type 0
Ids = List ℕ × List ℕ

-- the ids pair by pair: the first of a pair, then its second
abbrev pub ids_of : List Ids → List (List ℕ)
ids_of pairs = flat_map (λ p. p.0 ∷ p.1 ∷ []) pairs

-- the partition of an id, one of length 0 where the id has none
abbrev pub factor_named : List NamedCode → List ℕ → PartitionValue
factor_named known id = unwrap_or (partition_named id known) no_partition

-- the partitions of pairs of ids
abbrev pub factors_named : List NamedCode → List Ids → List Factors
factors_named known pairs = map (λ p. (factor_named known p.0, factor_named known p.1)) pairs

-- the length of the first partition of the first pair
abbrev pub first_length : List NamedCode → List Ids → ℕ
first_length known [] = 0
first_length known (p ∷ ps) = (factor_named known p.0).entry.n

-- whether a first id is wrong: its piece is no partition, has another length, or has no weight where one is stated
abbrev pub is_wrong_first : Option ℕ → ℕ → Option PartitionValue → Bool
is_wrong_first w long None = true
is_wrong_first w long (Some x) = not (x.entry.n == long) || (is_some w && not (is_some x.entry.w))

-- whether a second id is wrong beside the first partition: its piece is no partition, both lengths don't add up to that of the entry, or, where
-- a weight is stated, it has none or both don't add up to it
abbrev pub is_wrong_second : Entry → PartitionValue → Option PartitionValue → Bool
is_wrong_second e x None = true
is_wrong_second e x (Some y) = not (x.entry.n + y.entry.n == e.n) || not (add_up e.w x.entry.w y.entry.w)

-- the first id of a pair that is wrong
abbrev pub wrong_of_pair : Entry → ℕ → List NamedCode → Ids → Option (List ℕ)
wrong_of_pair e long known p =
    if is_wrong_first e.w long (partition_named p.0 known) then Some p.0
    else if is_wrong_second e (factor_named known p.0) (partition_named p.1 known) then Some p.1
    else None

-- the first id of the pairs, pair by pair, that is wrong
abbrev pub wrong_of_pairs : Entry → ℕ → List NamedCode → List Ids → Option (List ℕ)
wrong_of_pairs e long known [] = None
wrong_of_pairs e long known (p ∷ ps) = first_of (wrong_of_pair e long known p) (wrong_of_pairs e long known ps)

-- the first id that is wrong: the first partitions are all to have the length of that of the first pair
abbrev pub wrong_id : Entry → List NamedCode → List Ids → Option (List ℕ)
wrong_id e known pairs = wrong_of_pairs e (first_length known pairs) known pairs

-- the distance of the product, where it is below the stated one
abbrev pub short_of : Entry → ℕ → Option SubmitFault
short_of e have = if nat_lt have e.d then Some (fault.Build (build.Short have e.d)) else None

-- the first reason against the product: the first wrong id, or else its distance
abbrev pub product_reason : Entry → List NamedCode → List Ids → Option SubmitFault
product_reason e known pairs = first_of (option_map fault.WrongPart (wrong_id e known pairs)) (short_of e (product_distance (factors_named known pairs)))

-- the code is the product, whose words are not stored
abbrev pub product_kind : Entry → List Ids → KindParts
product_kind e pairs = record {
  text = codes "product";
  entry = e;
  parts = ids_of pairs;
  reason = λ known. product_reason e known pairs;
  words = λ known. Some (product (factors_named known pairs));
  size = λ known. Some (product_size (factors_named known pairs));
  has_code = true;
  partition = None;
  listed = 0;
  is_stored = false;
  gives = support_from e;
}

-- each id is that of a partition, the pairs have a product of the entry's length and weight, and its distance is at least the entry's
pub record IsProductChecked (e : Entry) (known : List NamedCode) (pairs : List Ids) : Type 0 where
  pub partitions : All (λ p. IsSome (partition_named p.0 known) × IsSome (partition_named p.1 known)) pairs
  pub factors : AreFactors e.n e.w (factors_named known pairs)
  pub distance : e.d ≤ product_distance (factors_named known pairs)
