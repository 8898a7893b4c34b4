-- Which reasons the kinds' own checks have.
use Rattle.std.proofs.Common.{◌≡◌, ℕ, zero, suc, Bool, true, false, cond, List, Option, Some, None, option_map, subst, nat_lt}
use Rattle.ct_words.specs.Pairs.{first_of}
use Rattle.ct_words.specs.declared.entry.Entry.{Entry}
use Rattle.ct_words.specs.declared.fault.CodeFault.{CodeFault}
use Rattle.ct_words.specs.Check.{code_fault}
use Rattle.ct_words.specs.Code.{CodeValue}
use Rattle.ct_words.specs.Coset.{coset_fault}
use Rattle.ct_words.specs.Numbers.{numbers_of}
use Rattle.ct_classes.specs.declared.fault.PartitionFault.{PartitionFault}
use Rattle.ct_partitions.specs.Check.{partition_fault}
use Rattle.ct_partitions.specs.Product.{product_distance}
use Rattle.ct_duals.specs.declared.fault.DualFault.{DualFault}
use Rattle.ct_duals.specs.Check.{dual_fault}
use Rattle.ct_build.specs.declared.fault.BuildFault.{BuildFault}
use Rattle.ct_build.specs.declared.fault.BuildFault.TheVariants as build
use Rattle.ct_build.specs.declared.step.Step.{Step}
use Rattle.ct_build.specs.Build.{build_fault}
use Rattle.ct_kind.specs.declared.evidence.Evidence.{Evidence}
use Rattle.ct_kind.specs.declared.evidence.Evidence.TheVariants.{Words, Cosets}
use Rattle.ct_kind.specs.declared.evidence.Evidence.TheVariants as evidence
use Rattle.ct_kind.specs.Named.{NamedCode, code_named, other_named}
use Rattle.ct_kind.specs.declared.fault.SubmitFault.{SubmitFault}
use Rattle.ct_kind.specs.declared.fault.SubmitFault.TheVariants.{WrongPart, Code, Partition, Build, Dual}
use Rattle.ct_build_files.specs.BuildKind.{build_refusal, step_reason}
use Rattle.ct_partition_files.specs.ProductKind.{factors_named, wrong_id, short_of}
use Rattle.ct_files.specs.ByKind.{own_reason}

-- a reason of a kind's own check
abbrev pub IsOwn : SubmitFault → Type 0
IsOwn (WrongPart part) = Unit {0}
IsOwn (Code reason) = Unit {0}
IsOwn (Partition reason) = Unit {0}
IsOwn (Build reason) = Unit {0}
IsOwn (Dual reason) = Unit {0}
IsOwn reason = ⊥

code-own : (o : Option CodeFault) (reason : SubmitFault) → option_map Code o ≡ Some reason → IsOwn reason
code-own None reason h = absurd cc
code-own (Some f) reason h = let same : Code f ≡ reason = cc in subst IsOwn same tt

partition-own : (o : Option PartitionFault) (reason : SubmitFault) → option_map Partition o ≡ Some reason → IsOwn reason
partition-own None reason h = absurd cc
partition-own (Some f) reason h = let same : Partition f ≡ reason = cc in subst IsOwn same tt

short-own : (e : Entry) (have : ℕ) (reason : SubmitFault) → short_of e have ≡ Some reason → IsOwn reason
short-own e have reason h = at (nat_lt have e.d) h where
  at : (b : Bool) → cond b (Some (Build (build.Short have e.d))) None ≡ Some reason → IsOwn reason
  at true is = let same : Build (build.Short have e.d) ≡ reason = cc in subst IsOwn same tt
  at false is = absurd cc

product-own : (e : Entry) (wrong : Option (List ℕ)) (have : ℕ) (reason : SubmitFault) → first_of (option_map WrongPart wrong) (short_of e have) ≡ Some reason → IsOwn reason
product-own e None have reason h = short-own e have reason h
product-own e (Some id) have reason h = let same : WrongPart id ≡ reason = cc in subst IsOwn same tt

dual-own : (o : Option DualFault) (reason : SubmitFault) → option_map Dual o ≡ Some reason → IsOwn reason
dual-own None reason h = absurd cc
dual-own (Some f) reason h = let same : Dual f ≡ reason = cc in subst IsOwn same tt

refusal-own : (part : List ℕ) (other : Option (List ℕ)) (f : BuildFault) → IsOwn (build_refusal part other f)
refusal-own part other (build.WrongPart zero) = tt
refusal-own part other (build.WrongPart (suc i)) = tt
refusal-own part other (build.Short have want) = tt
refusal-own part other (build.Size count) = tt
refusal-own part other (build.Few have want) = tt
refusal-own part other build.Empty = tt
refusal-own part other build.Memory = tt

build-own : (part : List ℕ) (other : Option (List ℕ)) (o : Option BuildFault) (reason : SubmitFault) → option_map (build_refusal part other) o ≡ Some reason → IsOwn reason
build-own part other None reason h = absurd cc
build-own part other (Some f) reason h = let same : build_refusal part other f ≡ reason = cc in subst IsOwn same (refusal-own part other f)

step-own : (e : Entry) (step : Step) (part : List ℕ) (other : Option (List ℕ)) (first beside : Option CodeValue) (reason : SubmitFault)
    → step_reason e step part other first beside ≡ Some reason → IsOwn reason
step-own e step part other None beside reason h = let same : WrongPart part ≡ reason = cc in subst IsOwn same tt
step-own e step part other (Some code) beside reason h = build-own part other (build_fault step e code beside) reason h

pub reason-own : (known : List NamedCode) (evidence : Evidence) (reason : SubmitFault) → own_reason known evidence ≡ Some reason → IsOwn reason
reason-own known (Words e words) reason h = code-own (code_fault e words) reason h
reason-own known (Cosets e basis representatives) reason h = code-own (coset_fault e basis representatives) reason h
reason-own known (evidence.Partition e between classes) reason h = partition-own (partition_fault e between classes) reason h
reason-own known (evidence.Product e pairs) reason h = product-own e (wrong_id e known pairs) (product_distance (factors_named known pairs)) reason h
reason-own known (evidence.Build e step part other) reason h = step-own e step part other (code_named part known) (other_named other known) reason h
reason-own known (evidence.Dual d) reason h = dual-own (dual_fault (numbers_of d.entry) d) reason h
reason-own known (evidence.JohnsonDual d) reason h = dual-own (dual_fault (numbers_of d.entry) d) reason h
reason-own known (evidence.Odd d m) reason h = dual-own (dual_fault (numbers_of d.entry) d) reason h
reason-own known (evidence.JohnsonLocal d) reason h = dual-own (dual_fault (numbers_of d.entry) d) reason h
