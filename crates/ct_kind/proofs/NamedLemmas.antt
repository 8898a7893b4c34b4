-- Pieces that may be named: what an id has is a code, or a partition.
use Rattle.std.proofs.Common.{◌≡◌, ℕ, Bool, true, false, ◌||◌, cond, List, [], ◌∷◌, refl}
use Rattle.std.specs.Prelude.{IfSome}
use Rattle.std.specs.Str.{bytes_eq}
use Rattle.std.proofs.lemmas.List.Elements.{All-head, All-tail}
use Rattle.std.proofs.lemmas.Slice.Eq.{bytes_eq-Decides}
use Rattle.ct_words.specs.Code.{IsSoundCode}
use Rattle.ct_classes.specs.Partition.{IsSoundPartition}
use Rattle.ct_kind.specs.Named.{NamedCode, code_named, partition_named}
use Rattle.ct_kind.specs.Sound.{HasSoundCode, AreSound}

pub or-later : (a b : Bool) → b ≡ true → (a || b) ≡ true
or-later true b h = refl
or-later false b h = h

pub bytes_eq-same : (id : List ℕ) → bytes_eq id id ≡ true
bytes_eq-same id = (bytes_eq-Decides id id).1 refl

-- the code of an id is one
pub named-sound : (id : List ℕ) (known : List NamedCode) → AreSound known → IfSome (code_named id known) IsSoundCode
named-sound id [] sound = tt
named-sound id (k ∷ known) sound = at (bytes_eq k.id id) (named-sound id known (All-tail HasSoundCode k known sound)) where
  at : (b : Bool) → IfSome (code_named id known) IsSoundCode → IfSome (cond b k.code (code_named id known)) IsSoundCode
  at true rest = (All-head HasSoundCode k known sound).code
  at false rest = rest

-- the partition of an id is one
pub partition-sound : (id : List ℕ) (known : List NamedCode) → AreSound known → IfSome (partition_named id known) IsSoundPartition
partition-sound id [] sound = tt
partition-sound id (k ∷ known) sound = at (bytes_eq k.id id) (partition-sound id known (All-tail HasSoundCode k known sound)) where
  at : (b : Bool) → IfSome (partition_named id known) IsSoundPartition → IfSome (cond b k.partition (partition_named id known)) IsSoundPartition
  at true rest = (All-head HasSoundCode k known sound).partition
  at false rest = rest
