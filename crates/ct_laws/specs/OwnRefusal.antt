-- Why a kind has a reason of its own against evidence, kind by kind.
use Rattle.std.specs.Prelude.{List}
use Rattle.ct_kind.specs.declared.evidence.Evidence.{Evidence}
use Rattle.ct_kind.specs.declared.evidence.Evidence.TheVariants.{Words, Cosets, Partition, Build, Product, Dual, JohnsonDual, Odd, JohnsonLocal}
use Rattle.ct_kind.specs.Named.{NamedCode, code_named, other_named}
use Rattle.ct_kind.specs.declared.fault.SubmitFault.{SubmitFault}
use Rattle.ct_laws.specs.WordsRefusal.{IsWordsRefusal}
use Rattle.ct_laws.specs.CosetsRefusal.{IsCosetsRefusal}
use Rattle.ct_laws.specs.PartitionRefusal.{IsPartitionRefusal}
use Rattle.ct_laws.specs.ProductRefusal.{IsProductRefusal}
use Rattle.ct_laws.specs.BuildRefusal.{IsBuildRefusal}
use Rattle.ct_laws.specs.DualRefusal.{IsDualRefusal}

-- this reason is the first that the kind of the evidence has against it, where its parts stand
abbrev pub IsOwnRefusal : List NamedCode → Evidence → SubmitFault → Type 0
IsOwnRefusal known (Words e words) reason = IsWordsRefusal e words reason
IsOwnRefusal known (Cosets e basis representatives) reason = IsCosetsRefusal e basis representatives reason
IsOwnRefusal known (Partition e between classes) reason = IsPartitionRefusal e between classes reason
IsOwnRefusal known (Build e step part other) reason = IsBuildRefusal e step part other (code_named part known) (other_named other known) reason
IsOwnRefusal known (Product e pairs) reason = IsProductRefusal e known pairs reason
IsOwnRefusal known (Dual d) reason = IsDualRefusal d reason
IsOwnRefusal known (JohnsonDual d) reason = IsDualRefusal d reason
IsOwnRefusal known (Odd d m) reason = IsDualRefusal d reason
IsOwnRefusal known (JohnsonLocal d) reason = IsDualRefusal d reason
