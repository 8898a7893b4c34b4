-- What is said of evidence against which its kind's own check finds nothing.
use Rattle.std.proofs.Common.{◌≡◌, ℕ, ◌≤◌, List, length, Option, Some, None, is_some, option_map, refl}
use Rattle.std.specs.Prelude.{IfSome, IsTrue}
use Rattle.ct_words.specs.Entry.{IsEntry}
use Rattle.ct_words.specs.Code.{IsCodeOf}
use Rattle.ct_classes.specs.Partition.{IsSoundPartition}
use Rattle.ct_rule_parts.specs.Support.{Stands}
use Rattle.ct_kind.specs.Named.{NamedCode, is_known, code_named, partition_named}
use Rattle.ct_kind.specs.KindParts.{KindParts}

pub option_map-none : {X Y : Type 0} (f : X → Y) (o : Option X) → option_map f o ≡ None → o ≡ None
option_map-none f None h = refl
option_map-none f (Some x) h = absurd cc

-- what evidence of a kind comes to that its own check finds nothing against: its entry is of the table, and what more is asked of it holds; it has
-- words exactly where its kind has a code, and they are a code of its entry, with some word, and so many as its size; a partition that it states is
-- one; and what it gives to the table stands
pub record StatesWell (kind : KindParts) (known : List NamedCode) (asked : Type 0) : Type 0 where
  pub entry : IsEntry kind.entry
  pub checked : asked
  pub coded : is_some (kind.words known) ≡ kind.has_code
  pub code : IfSome (kind.words known) (λ ws. (1 ≤ length ws) × IsCodeOf kind.entry ws)
  pub size : IsTrue kind.has_code → kind.size known ≡ option_map length (kind.words known)
  pub partition : IfSome kind.partition IsSoundPartition
  pub stands : Stands (kind.gives (kind.size known))

-- what a kind says over some pieces, it says over others
pub record SaysSame (kind : KindParts) (left right : List NamedCode) : Type 0 where
  pub reason : kind.reason left ≡ kind.reason right
  pub words : kind.words left ≡ kind.words right
  pub size : kind.size left ≡ kind.size right

-- an id has the same code, is the same partition, and is known where it was
pub record IsAlike (part : List ℕ) (left right : List NamedCode) : Type 0 where
  pub code : code_named part left ≡ code_named part right
  pub partition : partition_named part left ≡ partition_named part right
  pub known : is_known part left ≡ is_known part right
