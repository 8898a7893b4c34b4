-- Pieces that may be named as parts: the id of each, its code, where its kind has one, and the partition that it is, where it is one.
use Rattle.std.specs.Prelude.{ℕ, Bool, not, if◌then◌else◌, List, [], ◌∷◌, find, Option, None, Some}
use Rattle.std.specs.List.{list_any}
use Rattle.std.specs.Str.{bytes_eq}
use Rattle.ct_words.specs.Code.{CodeValue}
use Rattle.ct_classes.specs.Partition.{PartitionValue}

-- the id of a piece, its code, where its kind has one, and the partition that it is, where it is one
pub record NamedCode : Type 0 where
  pub id : List ℕ
  pub code : Option CodeValue
  pub partition : Option PartitionValue

-- whether a piece has the id
abbrev pub is_known : List ℕ → List NamedCode → Bool
is_known id known = list_any (λ k. bytes_eq k.id id) known

-- the first of the ids that no piece has
abbrev pub first_missing : List NamedCode → List (List ℕ) → Option (List ℕ)
first_missing known ids = find (λ id. not (is_known id known)) ids

-- the code of the first piece with the id, where there is one and its kind has a code
abbrev pub code_named : List ℕ → List NamedCode → Option CodeValue
code_named id [] = None
code_named id (k ∷ ks) = if bytes_eq k.id id then k.code else code_named id ks

-- the partition that the first piece with the id is, where there is one and it is one
abbrev pub partition_named : List ℕ → List NamedCode → Option PartitionValue
partition_named id [] = None
partition_named id (k ∷ ks) = if bytes_eq k.id id then k.partition else partition_named id ks

-- the code of the other part, where one is named
abbrev pub other_named : Option (List ℕ) → List NamedCode → Option CodeValue
other_named None known = None
other_named (Some id) known = code_named id known
