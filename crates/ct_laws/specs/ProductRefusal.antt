-- Why a product makes no code, and which of its ids is wrong, without the steps by which that is found.
use Rattle.std.specs.Prelude.{◌≡◌, ◌⊎◌, ◌<◌, ℕ, ◌+◌, List, ◌∷◌, ◌++◌, All, Option, Some, None, IfSome, IsSome}
use Rattle.ct_words.specs.declared.entry.Entry.{Entry}
use Rattle.ct_words.specs.Constructions.Juxtaposed.{added_weights}
use Rattle.ct_build.specs.declared.fault.BuildFault.TheVariants as build
use Rattle.ct_classes.specs.Partition.{PartitionValue}
use Rattle.ct_partitions.specs.Product.{product_distance}
use Rattle.ct_kind.specs.Named.{NamedCode, partition_named}
use Rattle.ct_kind.specs.declared.fault.SubmitFault.{SubmitFault}
use Rattle.ct_kind.specs.declared.fault.SubmitFault.TheVariants as fault
use Rattle.ct_partition_files.specs.ProductKind.{Ids, factor_named, factors_named, first_length}

-- a first id is right: its piece is a partition of this length, which has a weight where one is stated
abbrev pub IsRightFirst : Option ℕ → ℕ → Option PartitionValue → Type 0
IsRightFirst w long None = ⊥
IsRightFirst w long (Some x) = (x.entry.n ≡ long) × IfSome w (λ k. IsSome x.entry.w)

-- a second id is right beside a first partition: its piece is a partition, both lengths add up to that of the entry, and both weights to the stated one
abbrev pub IsRightSecond : Entry → PartitionValue → Option PartitionValue → Type 0
IsRightSecond e x None = ⊥
IsRightSecond e x (Some y) = (x.entry.n + y.entry.n ≡ e.n) × IfSome e.w (λ k. added_weights x.entry.w y.entry.w ≡ Some k)

-- both ids of a pair are right
abbrev pub IsRightPair : Entry → ℕ → List NamedCode → Ids → Type 0
IsRightPair e long known p = IsRightFirst e.w long (partition_named p.0 known) × IsRightSecond e (factor_named known p.0) (partition_named p.1 known)

-- this id of a pair is the first that is wrong: its first id, or else its second
abbrev pub IsWrongOf : Entry → ℕ → List NamedCode → Ids → List ℕ → Type 0
IsWrongOf e long known p id =
    (¬ (IsRightFirst e.w long (partition_named p.0 known)) × (id ≡ p.0))
    ⊎ (IsRightFirst e.w long (partition_named p.0 known) × ¬ (IsRightSecond e (factor_named known p.0) (partition_named p.1 known)) × (id ≡ p.1))

-- this id is the first of the pairs that is wrong, where the first partitions are to have this length: both ids of each pair before are right
pub record IsFirstWrongAt (e : Entry) (long : ℕ) (known : List NamedCode) (pairs : List Ids) (id : List ℕ) : Type 0 where
  pub before : List Ids
  pub pair : Ids
  pub after : List Ids
  pub split : pairs ≡ before ++ pair ∷ after
  pub right : All (IsRightPair e long known) before
  pub wrong : IsWrongOf e long known pair id

-- this id is the first that is wrong: the first partitions are to have the length of that of the first pair
abbrev pub IsFirstWrong : Entry → List NamedCode → List Ids → List ℕ → Type 0
IsFirstWrong e known pairs id = IsFirstWrongAt e (first_length known pairs) known pairs id

-- both ids of each pair are right
abbrev pub AreRightPairs : Entry → List NamedCode → List Ids → Type 0
AreRightPairs e known pairs = All (IsRightPair e (first_length known pairs) known) pairs

-- evidence of kind product is refused for this reason: the first wrong id, or else that the distance of the product is too small
abbrev pub IsProductRefusal : Entry → List NamedCode → List Ids → SubmitFault → Type 0
IsProductRefusal e known pairs (fault.WrongPart id) = IsFirstWrong e known pairs id
IsProductRefusal e known pairs (fault.Build (build.Short have want)) =
    AreRightPairs e known pairs × (have ≡ product_distance (factors_named known pairs)) × (want ≡ e.d) × (have < want)
IsProductRefusal e known pairs reason = ⊥
