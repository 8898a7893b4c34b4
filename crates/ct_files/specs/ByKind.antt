-- Evidence by its kind, and what each kind says of it.
use Rattle.std.specs.Prelude.{ℕ, Bool, if◌then◌else◌, List, Option, None, option_map, codes}
use Rattle.std.specs.List.{list_any}
use Rattle.std.specs.Option.{MatchOption}
use Rattle.std.specs.Str.{bytes_eq}
use Rattle.ct_words.specs.declared.entry.Entry.{Entry}
use Rattle.ct_words.specs.Code.{CodeValue, IsCodeOf}
use Rattle.ct_build.specs.Build.{IsRightBuild}
use Rattle.ct_classes.specs.Partition.{IsPartition}
use Rattle.ct_rule_parts.specs.declared.support.Support.TheVariants as support
use Rattle.ct_kind.specs.declared.evidence.Evidence.{Evidence}
use Rattle.ct_kind.specs.declared.evidence.Evidence.TheVariants.{Words, Cosets, Partition, Build, Product, Dual, JohnsonDual, Odd, JohnsonLocal}
use Rattle.ct_kind.specs.Named.{NamedCode, code_named, other_named}
use Rattle.ct_kind.specs.KindParts.{KindParts, kind_reason}
use Rattle.ct_kind.specs.Ascending.{code_at}
use Rattle.ct_word_files.specs.WordsKind.{words_kind}
use Rattle.ct_word_files.specs.CosetsKind.{cosets_kind, IsCosetsChecked}
use Rattle.ct_partition_files.specs.PartitionKind.{partition_kind}
use Rattle.ct_build_files.specs.BuildKind.{build_kind}
use Rattle.ct_partition_files.specs.ProductKind.{product_kind, IsProductChecked}
use Rattle.ct_dual_files.specs.DualKind.{dual_kind, IsDualChecked}
use Rattle.ct_kind.specs.declared.fault.SubmitFault.{SubmitFault}

-- what evidence comes to by its kind
abbrev pub kind_of : Evidence → KindParts
kind_of (Words e words) = words_kind e words
kind_of (Cosets e basis representatives) = cosets_kind e basis representatives
kind_of (Partition e between classes) = partition_kind e between classes
kind_of (Build e step part other) = build_kind e step part other
kind_of (Product e pairs) = product_kind e pairs
kind_of (Dual d) = dual_kind support.Bound (codes "dual") d
kind_of (JohnsonDual d) = dual_kind support.Bound (codes "jdual") d
kind_of (Odd d m) = dual_kind (λ accepted. support.Odd accepted m) (codes "odd") d
kind_of (JohnsonLocal d) = dual_kind support.Local (codes "jlocal") d

-- the entry that evidence is about
abbrev pub stated_entry : Evidence → Entry
stated_entry evidence = (kind_of evidence).entry

-- the ids of the pieces that evidence names as its parts, in the order of its document
abbrev pub ids_of_parts : Evidence → List (List ℕ)
ids_of_parts evidence = (kind_of evidence).parts

-- whether evidence names the piece of this id as a part of its own
abbrev pub names : Evidence → List ℕ → Bool
names evidence id = list_any (λ part. bytes_eq part id) (ids_of_parts evidence)

-- whether the kind of the evidence has a code
abbrev pub has_code : Evidence → Bool
has_code evidence = (kind_of evidence).has_code

-- the first reason of the kind's own check against evidence whose parts stand
abbrev pub own_reason : List NamedCode → Evidence → Option SubmitFault
own_reason known evidence = (kind_of evidence).reason known

-- the words of the code that evidence states, where its kind has one
abbrev pub words_over : List NamedCode → Evidence → Option (List ℕ)
words_over known evidence = (kind_of evidence).words known

-- the size of the piece that evidence makes, where it has one
abbrev pub size_over : List NamedCode → Evidence → Option ℕ
size_over known evidence = (kind_of evidence).size known

-- what is asked of evidence that is accepted, beside that its parts stand: that its words, or those of all choices of cosets, are a code of its entry,
-- and for cosets that the work of the check is within the limit; for a partition that its classes are one; for a build that its first part has a code
-- over which, and over that of the other, its step is right; for a product that its pairs have one of the distance that is stated; and for a dual that
-- it is one
abbrev pub IsChecked : List NamedCode → Evidence → Type 0
IsChecked known (Words e words) = IsCodeOf e words
IsChecked known (Cosets e basis representatives) = IsCosetsChecked e basis representatives
IsChecked known (Partition e between classes) = IsPartition e.n e.d e.w between classes
IsChecked known (Build e step part other) = MatchOption (code_named part known) ⊥ (λ code. IsRightBuild step e code (other_named other known))
IsChecked known (Product e pairs) = IsProductChecked e known pairs
IsChecked known (Dual d) = IsDualChecked d
IsChecked known (JohnsonDual d) = IsDualChecked d
IsChecked known (Odd d m) = IsDualChecked d
IsChecked known (JohnsonLocal d) = IsDualChecked d

-- the first reason against evidence over these pieces: the first named part that none of them is, or else its kind's own
abbrev pub evidence_reason : List NamedCode → Evidence → Option SubmitFault
evidence_reason known evidence = kind_reason (kind_of evidence) known

-- the code that evidence states over these codes, where its kind has one
abbrev pub code_over : List NamedCode → Evidence → Option CodeValue
code_over known evidence = option_map (code_at (stated_entry evidence)) (words_over known evidence)

-- whether the words of the code of such evidence are stored
abbrev pub is_kept : Evidence → Bool
is_kept evidence = (kind_of evidence).is_stored

-- the code that is kept beside a piece of the evidence, once it is made: the one that it states over these codes, where its words are stored
abbrev pub kept_over : List NamedCode → Evidence → Option CodeValue
kept_over known evidence = if is_kept evidence then code_over known evidence else None

-- the code that is made anew where it is needed: the one that evidence states over these codes, whose words are not stored
abbrev pub listed_code : List NamedCode → Evidence → Option CodeValue
listed_code known evidence = if is_kept evidence then None else code_over known evidence
