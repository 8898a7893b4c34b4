-- What a kind of evidence is made of.
use Rattle.std.specs.Prelude.{ℕ, ◌+◌, Bool, if◌then◌else◌, List, Option, Some, None, option_map}
use Rattle.std.specs.Option.{unwrap_or}
use Rattle.ct_words.specs.declared.entry.Entry.{Entry}
use Rattle.ct_words.specs.Pairs.{first_of}
use Rattle.ct_classes.specs.Partition.{PartitionValue}
use Rattle.ct_rule_parts.specs.declared.support.Support.{Support}
use Rattle.ct_rule_parts.specs.declared.support.Support.TheVariants.{Nothing, Size}
use Rattle.ct_kind.specs.Named.{NamedCode, first_missing}
use Rattle.ct_kind.specs.declared.fault.SubmitFault.{SubmitFault}
use Rattle.ct_kind.specs.declared.fault.SubmitFault.TheVariants as fault

-- what evidence comes to, whatever its kind: the word of its kind in a ledger's line; the entry that it is about; the ids of the pieces that it names
-- as its parts, in the order of its document; and, over the pieces that it may name, the first reason that its kind's own check has against it where
-- its parts stand, the words of the code that it states, where its kind has a code, and the size that its piece has, where it has one; the partition
-- that it states, where it states one; how many words its document lists, and whether the words of its code are stored besides; and what a piece of
-- this size gives to the table
pub record KindParts : Type 0 where
  pub text : List ℕ
  pub entry : Entry
  pub parts : List (List ℕ)
  pub reason : List NamedCode → Option SubmitFault
  pub words : List NamedCode → Option (List ℕ)
  pub size : List NamedCode → Option ℕ
  pub has_code : Bool
  pub partition : Option PartitionValue
  pub listed : ℕ
  pub is_stored : Bool
  pub gives : Option ℕ → Support

-- how many words a piece of the kind stores, which has this size: those that its document lists, and where they are stored those of its code
abbrev pub stored_for : KindParts → Option ℕ → ℕ
stored_for kind size = kind.listed + (if kind.is_stored then unwrap_or size 0 else 0)

-- the size of a code at an entry, where there is one, else nothing
abbrev pub support_from : Entry → Option ℕ → Support
support_from e None = Nothing
support_from e (Some size) = Size e size

-- the first reason against evidence over the pieces that it may name: the first named part that none of them is, or else its kind's own
abbrev pub kind_reason : KindParts → List NamedCode → Option SubmitFault
kind_reason kind known = first_of (option_map fault.NoSuch (first_missing known kind.parts)) (kind.reason known)
