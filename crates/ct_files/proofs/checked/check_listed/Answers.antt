use Rattle.std.proofs.Common.{◌≡◌, ℕ, suc, ◌^◌, ◌<◌, ◌≤◌, List, length, Some, None, refl, sym, subst}
use Rattle.std.specs.Prelude.{All}
use Rattle.ct_words.specs.declared.limits.TheConstants.{MAX_N}
use Rattle.ct_words.specs.Check.{code_fault}
use Rattle.ct_words.specs.Coset.{coset_fault, coset_list}
use Rattle.ct_words.specs.Numbers.{numbers_of}
use Rattle.ct_duals.specs.Check.{dual_fault}
use Rattle.ct_dual_files.specs.DualKind.{dual_support, odd_support, local_support}
use Rattle.ct_kind.specs.KindParts.{support_from}
use Rattle.ct_kind.specs.declared.evidence.Evidence.{Evidence}
use Rattle.ct_kind.specs.declared.evidence.Evidence.TheVariants.{Words, Cosets, Partition, Product, Dual, JohnsonDual, Odd, JohnsonLocal}
use Rattle.ct_kind.specs.declared.fault.SubmitFault.TheVariants as fault
use Rattle.ct_partition_files.specs.ProductKind.{Ids}
use Rattle.ct_partitions.specs.Check.{partition_fault}
use Rattle.ct_classes.specs.Partition.{words_of_classes}
use Rattle.ct_files.specs.Checked.{IsCheck}
use Rattle.ct_rule_parts.specs.declared.support.Support.TheVariants.{Nothing}
use Rattle.ct_files.proofs.AtEvidence.{sound-at}
use Rattle.ct_files.proofs.Checking.{check-sized, check-counted, check-dual}
use Rattle.ct_files.proofs.checked.check_listed.Goals as goal

pub returns-in-Words : goal.returns-in-Words
returns-in-Words g c =
    let known = g.P.Partitions.known c.args.pieces.now in
    let e = c.in-Words.entry in
    let words = c.as_slice.result.now in
    let r = c.of_code.result in
    subst (λ (evidence : Evidence). IsCheck known evidence r) (sym c.in-Words.is)
    (subst (λ (xs : List ℕ). IsCheck known (Words e xs) r) c.as_slice.ensures
    (check-counted known (Words e words) (λ n. support_from e (Some n)) (length words) fault.Code (code_fault e words) c.check-size.result r c.of_code.ensures (λ n. refl) refl refl
    c.check-size.ensures.size c.check-size.ensures.accepted c.check-size.ensures.fault))

pub returns-in-Cosets : goal.returns-in-Cosets
returns-in-Cosets g c =
    let known = g.P.Partitions.known c.args.pieces.now in
    let e = c.in-Cosets.entry in
    let basis = c.as_slice-in-Cosets.result.now in
    let representatives = c.as_slice-representatives.result.now in
    let r = c.of_code-in-Cosets.result in
    let said = c.check-size-in-Cosets.ensures in
    subst (λ (evidence : Evidence). IsCheck known evidence r) (sym c.in-Cosets.is)
    (subst (λ (xs : List ℕ). IsCheck known (Cosets e xs c.in-Cosets.representatives) r) c.as_slice-in-Cosets.ensures
    (subst (λ (xs : List ℕ). IsCheck known (Cosets e basis xs) r) c.as_slice-representatives.ensures
    (check-counted known (Cosets e basis representatives) (λ n. support_from e (Some n)) (length (coset_list basis representatives)) fault.Code (coset_fault e basis representatives)
    c.check-size-in-Cosets.result r c.of_code-in-Cosets.ensures (λ n. refl) refl refl said.size said.accepted said.fault)))

pub returns-in-Partition : goal.returns-in-Partition
returns-in-Partition g c =
    let known = g.P.Partitions.known c.args.pieces.now in
    let e = c.in-Partition.entry in
    let between = c.in-Partition.between in
    let classes = c.in-Partition.classes in
    let r = c.of_classes.result in
    let count = c.check-count.result in
    let said = rw c.as_slice-in-Partition.ensures at c.check-count.ensures.size in
    let right = rw c.as_slice-in-Partition.ensures at c.check-count.ensures.accepted in
    let wrong = rw c.as_slice-in-Partition.ensures at c.check-count.ensures.fault in
    subst (λ (evidence : Evidence). IsCheck known evidence r) (sym c.in-Partition.is)
    (check-counted known (Partition e between classes) (λ n. Nothing) (length (words_of_classes classes)) fault.Partition (partition_fault e between classes) count r
    c.of_classes.ensures (λ n. refl) refl refl said right wrong)

pub returns-in-Product : goal.returns-in-Product
returns-in-Product g c =
    let known = g.P.Partitions.known c.args.pieces.now in
    let e = c.in-Product.entry in
    let pairs = c.as_slice-in-Product.result.now in
    let r = c.of_code-in-Product.result in
    let said = c.check-size-in-Product.ensures.size in
    let right = c.check-size-in-Product.ensures.accepted in
    let wrong = c.check-size-in-Product.ensures.fault in
    subst (λ (evidence : Evidence). IsCheck known evidence r) (sym c.in-Product.is)
    (subst (λ (xs : List Ids). IsCheck known (Product e xs) r) c.as_slice-in-Product.ensures
    (check-sized known (Product e pairs) (λ n. support_from e (Some n)) c.check-size-in-Product.result r c.of_code-in-Product.ensures (λ n. refl) said right wrong))

pub returns-in-Dual : goal.returns-in-Dual
returns-in-Dual g c =
    let known = g.P.Partitions.known c.args.pieces.now in
    let d = c.in-Dual.dual in
    let why = dual_fault (numbers_of d.entry) d in
    let r = c.of_dual.result in
    let said = c.check.ensures in
    subst (λ (evidence : Evidence). IsCheck known evidence r) (sym c.in-Dual.is)
    (check-dual known (Dual d) (dual_support why d) fault.Dual why c.check.result r c.of_dual.ensures refl refl refl said.support said.accepted said.fault)

pub returns-in-JohnsonDual : goal.returns-in-JohnsonDual
returns-in-JohnsonDual g c =
    let known = g.P.Partitions.known c.args.pieces.now in
    let d = c.in-JohnsonDual.dual in
    let why = dual_fault (numbers_of d.entry) d in
    let r = c.of_dual-in-JohnsonDual.result in
    let said = c.check-in-JohnsonDual.ensures in
    subst (λ (evidence : Evidence). IsCheck known evidence r) (sym c.in-JohnsonDual.is)
    (check-dual known (JohnsonDual d) (dual_support why d) fault.Dual why c.check-in-JohnsonDual.result r c.of_dual-in-JohnsonDual.ensures refl refl refl said.support said.accepted said.fault)

pub returns-in-Odd : goal.returns-in-Odd
returns-in-Odd g c =
    let known = g.P.Partitions.known c.args.pieces.now in
    let d = c.in-Odd.dual in
    let why = dual_fault (numbers_of d.entry) d in
    let r = c.of_dual-in-Odd.result in
    let said = c.check_odd.ensures in
    subst (λ (evidence : Evidence). IsCheck known evidence r) (sym c.in-Odd.is)
    (check-dual known (Odd d c.in-Odd.m) (odd_support c.in-Odd.m why d) fault.Dual why c.check_odd.result r c.of_dual-in-Odd.ensures refl refl refl said.support said.accepted said.fault)

pub returns-in-JohnsonLocal : goal.returns-in-JohnsonLocal
returns-in-JohnsonLocal g c =
    let known = g.P.Partitions.known c.args.pieces.now in
    let d = c.in-JohnsonLocal.dual in
    let why = dual_fault (numbers_of d.entry) d in
    let r = c.of_dual-in-JohnsonLocal.result in
    let said = c.check_local.ensures in
    subst (λ (evidence : Evidence). IsCheck known evidence r) (sym c.in-JohnsonLocal.is)
    (check-dual known (JohnsonLocal d) (local_support why d) fault.Dual why c.check_local.result r c.of_dual-in-JohnsonLocal.ensures refl refl refl said.support said.accepted said.fault)

pub check-size-requires-clause-words : goal.check-size-requires-clause-words
check-size-requires-clause-words g c =
    let sound = sound-at c.args.evidence.now (Words c.in-Words.entry c.in-Words.words) c.in-Words.is c.requires.sound in
    subst (λ (xs : List ℕ). All (λ x. x < 2 ^ c.in-Words.entry.n) xs) (sym c.as_slice.ensures) sound.1

pub check-size-requires-in-Cosets-clause-basis : goal.check-size-requires-in-Cosets-clause-basis
check-size-requires-in-Cosets-clause-basis g c =
    let sound =
    sound-at c.args.evidence.now (Cosets c.in-Cosets.entry c.in-Cosets.basis c.in-Cosets.representatives) c.in-Cosets.is c.requires.sound in
    subst (λ (xs : List ℕ). All (λ x. x < 2 ^ c.in-Cosets.entry.n) xs) (sym c.as_slice-in-Cosets.ensures) sound.2

pub check-size-requires-in-Cosets-clause-representatives : goal.check-size-requires-in-Cosets-clause-representatives
check-size-requires-in-Cosets-clause-representatives g c =
    let sound =
    sound-at c.args.evidence.now (Cosets c.in-Cosets.entry c.in-Cosets.basis c.in-Cosets.representatives) c.in-Cosets.is c.requires.sound in
    subst (λ (xs : List ℕ). All (λ x. x < 2 ^ c.in-Cosets.entry.n) xs) (sym c.as_slice-representatives.ensures) sound.3

pub check-count-requires-clause-some : goal.check-count-requires-clause-some
check-count-requires-clause-some g c =
    (sound-at c.args.evidence.now (Partition c.in-Partition.entry c.in-Partition.between c.in-Partition.classes) c.in-Partition.is c.requires.sound).1

pub check-count-requires-clause-nearer : goal.check-count-requires-clause-nearer
check-count-requires-clause-nearer g c =
    (sound-at c.args.evidence.now (Partition c.in-Partition.entry c.in-Partition.between c.in-Partition.classes) c.in-Partition.is c.requires.sound).2

pub check-count-requires-clause-words : goal.check-count-requires-clause-words
check-count-requires-clause-words g c =
    let sound =
    sound-at c.args.evidence.now (Partition c.in-Partition.entry c.in-Partition.between c.in-Partition.classes) c.in-Partition.is c.requires.sound in
    subst (λ (cs : List (List ℕ)). All (λ x. x < 2 ^ c.in-Partition.entry.n) (words_of_classes cs)) (sym c.as_slice-in-Partition.ensures) sound.3

pub check-size-requires-in-Product-clause-some : goal.check-size-requires-in-Product-clause-some
check-size-requires-in-Product-clause-some g c =
    let sound = sound-at c.args.evidence.now (Product c.in-Product.entry c.in-Product.pairs) c.in-Product.is c.requires.sound in
    subst (λ (ps : List Ids). 1 ≤ length ps) (sym c.as_slice-in-Product.ensures) sound.1

pub check-size-requires-in-Product-clause-few : goal.check-size-requires-in-Product-clause-few
check-size-requires-in-Product-clause-few g c =
    let sound = sound-at c.args.evidence.now (Product c.in-Product.entry c.in-Product.pairs) c.in-Product.is c.requires.sound in
    subst (λ (ps : List Ids). length ps ≤ suc MAX_N) (sym c.as_slice-in-Product.ensures) sound.2

pub check-size-requires-in-Product-clause-weighted : goal.check-size-requires-in-Product-clause-weighted
check-size-requires-in-Product-clause-weighted g c =
    let sound = sound-at c.args.evidence.now (Product c.in-Product.entry c.in-Product.pairs) c.in-Product.is c.requires.sound in
    subst (λ (ps : List Ids). c.in-Product.entry.w ≡ None → length ps ≡ 1) (sym c.as_slice-in-Product.ensures) sound.3

pub check-requires : goal.check-requires
check-requires g c = record { form = (sound-at c.args.evidence.now (Dual c.in-Dual.dual) c.in-Dual.is c.requires.sound).0 }

pub check-requires-in-JohnsonDual : goal.check-requires-in-JohnsonDual
check-requires-in-JohnsonDual g c =
    record { form = (sound-at c.args.evidence.now (JohnsonDual c.in-JohnsonDual.dual) c.in-JohnsonDual.is c.requires.sound).0 }

pub check_odd-requires : goal.check_odd-requires
check_odd-requires g c = record { form = (sound-at c.args.evidence.now (Odd c.in-Odd.dual c.in-Odd.m) c.in-Odd.is c.requires.sound).0 }

pub check_local-requires-clause-form : goal.check_local-requires-clause-form
check_local-requires-clause-form g c =
    (sound-at c.args.evidence.now (JohnsonLocal c.in-JohnsonLocal.dual) c.in-JohnsonLocal.is c.requires.sound).0
