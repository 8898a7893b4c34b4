-- When a kind has a reason of its own against evidence, and when none.
use Rattle.std.proofs.Common.{◌≡◌, List, Some, None, codes}
use Rattle.ct_kind.specs.declared.evidence.Evidence.{Evidence}
use Rattle.ct_kind.specs.declared.evidence.Evidence.TheVariants.{Words, Cosets, Partition, Build, Product, Dual, JohnsonDual, Odd, JohnsonLocal}
use Rattle.ct_files.specs.Evidence.{IsSound}
use Rattle.ct_kind.specs.Named.{NamedCode, code_named, other_named}
use Rattle.ct_files.specs.ByKind.{own_reason, IsChecked}
use Rattle.ct_laws.specs.OwnRefusal.{IsOwnRefusal}
use Rattle.ct_kind.specs.declared.fault.SubmitFault.{SubmitFault}
use Rattle.ct_word_files.proofs.WordsKind.{words_accepted, words_checked}
use Rattle.ct_word_files.proofs.CosetsKind.{cosets_accepted, cosets_checked}
use Rattle.ct_laws.proofs.WordReasons.{words-reasons, cosets-reasons}
use Rattle.ct_partition_files.proofs.PartitionKind.{partition_accepted, partition_states}
use Rattle.ct_laws.proofs.PartitionReasons.{partition-reasons}
use Rattle.ct_partition_files.proofs.ProductKind.{product_accepted, right-product}
use Rattle.ct_laws.proofs.ProductReasons.{product-reasons}
use Rattle.ct_build_files.proofs.BuildKind.{build_accepted, build_checked}
use Rattle.ct_laws.proofs.BuildReasons.{build-reasons}
use Rattle.ct_duals.proofs.FormLemmas.{allows_none-plain, allows_none-empty}
use Rattle.ct_dual_files.proofs.DualKind.{dual_accepted, dual_states, odd_states, local_states}
use Rattle.ct_laws.proofs.DualReasons.{dual-reasons, odd-reasons, local-reasons}

-- a kind has a reason of its own against evidence exactly where its plain condition holds
pub own-told : (known : List NamedCode) (evidence : Evidence) (reason : SubmitFault) → own_reason known evidence ≡ Some reason → IsOwnRefusal known evidence reason
own-told known (Words e words) reason some = (words-reasons known e words).told reason some
own-told known (Cosets e basis representatives) reason some = (cosets-reasons known e basis representatives).told reason some
own-told known (Partition e between classes) reason some = (partition-reasons known e between classes).told reason some
own-told known (Product e pairs) reason some = (product-reasons known e pairs).told reason some
own-told known (Build e step part other) reason some = (build-reasons known e step part other).told reason some
own-told known (Dual d) reason some = (dual-reasons known (codes "dual") d).told reason some
own-told known (JohnsonDual d) reason some = (dual-reasons known (codes "jdual") d).told reason some
own-told known (Odd d m) reason some = (odd-reasons known (codes "odd") d m).told reason some
own-told known (JohnsonLocal d) reason some = (local-reasons known (codes "jlocal") d).told reason some

pub own-tells : (known : List NamedCode) (evidence : Evidence) (reason : SubmitFault) → IsOwnRefusal known evidence reason → own_reason known evidence ≡ Some reason
own-tells known (Words e words) reason h = (words-reasons known e words).tells reason h
own-tells known (Cosets e basis representatives) reason h = (cosets-reasons known e basis representatives).tells reason h
own-tells known (Partition e between classes) reason h = (partition-reasons known e between classes).tells reason h
own-tells known (Product e pairs) reason h = (product-reasons known e pairs).tells reason h
own-tells known (Build e step part other) reason h = (build-reasons known e step part other).tells reason h
own-tells known (Dual d) reason h = (dual-reasons known (codes "dual") d).tells reason h
own-tells known (JohnsonDual d) reason h = (dual-reasons known (codes "jdual") d).tells reason h
own-tells known (Odd d m) reason h = (odd-reasons known (codes "odd") d m).tells reason h
own-tells known (JohnsonLocal d) reason h = (local-reasons known (codes "jlocal") d).tells reason h

-- and none exactly where the evidence is as its kind asks
pub own_checked : (known : List NamedCode) (evidence : Evidence) → IsSound evidence → own_reason known evidence ≡ None → IsChecked known evidence
own_checked known (Words e words) sound none = words_checked known e words sound.1 none
own_checked known (Cosets e basis representatives) sound none = cosets_checked known e basis representatives sound.0 sound.1 sound.2 sound.3 none
own_checked known (Partition e between classes) sound none = (partition_states known e between classes sound.0 sound.1 sound.2 sound.3 none).checked
own_checked known (Product e pairs) sound none = (right-product e known pairs sound.1 sound.3 none).checked
own_checked known (Build e step part other) sound none = build_checked e step part other (code_named part known) (other_named other known) none
own_checked known (Dual d) sound none = (dual_states known (codes "dual") d sound.0 (allows_none-plain d.entry.w d.y sound.1) none).checked
own_checked known (JohnsonDual d) sound none = (dual_states known (codes "jdual") d sound.0 (allows_none-empty d.entry.w d.y sound.2) none).checked
own_checked known (Odd d m) sound none = (odd_states known (codes "odd") d m sound.0 none).checked
own_checked known (JohnsonLocal d) sound none = (local_states known (codes "jlocal") d sound.0 none).checked

pub no_own_reason : (known : List NamedCode) (evidence : Evidence) → IsSound evidence → IsChecked known evidence → own_reason known evidence ≡ None
no_own_reason known (Words e words) sound checked = words_accepted known e words sound.2 sound.3 checked
no_own_reason known (Cosets e basis representatives) sound checked = cosets_accepted known e basis representatives sound.4 sound.5 sound.6 checked
no_own_reason known (Partition e between classes) sound checked = partition_accepted known e between classes sound.1 sound.2 sound.4 checked
no_own_reason known (Product e pairs) sound checked = product_accepted known e pairs checked
no_own_reason known (Build e step part other) sound checked = build_accepted e step part other (code_named part known) (other_named other known) checked
no_own_reason known (Dual d) sound checked = dual_accepted d checked
no_own_reason known (JohnsonDual d) sound checked = dual_accepted d checked
no_own_reason known (Odd d m) sound checked = dual_accepted d checked
no_own_reason known (JohnsonLocal d) sound checked = dual_accepted d checked
