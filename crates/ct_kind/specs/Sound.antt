-- What holds of pieces that may be named: their codes are codes, and their partitions are partitions.
use Rattle.std.specs.Prelude.{List, All, IfSome}
use Rattle.ct_words.specs.Code.{IsSoundCode}
use Rattle.ct_classes.specs.Partition.{IsSoundPartition}
use Rattle.ct_kind.specs.Named.{NamedCode}

-- the code is one, where there is one, and so is the partition
pub record HasSoundCode (k : NamedCode) : Type 0 where
  pub code : IfSome k.code IsSoundCode
  pub partition : IfSome k.partition IsSoundPartition

-- so it is for each of the pieces
abbrev pub AreSound : List NamedCode → Type 0
AreSound known = All HasSoundCode known
