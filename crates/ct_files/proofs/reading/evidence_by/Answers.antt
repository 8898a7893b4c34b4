use Rattle.std.proofs.Common.{sym, subst}
use Rattle.toml.specs.View.{view}
use Rattle.ct_fields.specs.Reads.{Reads}
use Rattle.ct_kind.specs.declared.evidence.Evidence.{Evidence}
use Rattle.ct_files.specs.Kinds.{evidence_by}
use Rattle.ct_files.specs.declared.kind.Kind.{Kind}
use Rattle.ct_files.proofs.reading.evidence_by.Goals as goal

pub returns-in-Words : goal.returns-in-Words
returns-in-Words c =
    let table = view c.args.document.now in
    subst (λ (k : Kind). Reads (λ (evidence : Evidence). evidence) c.words_evidence.result (evidence_by k table)) (sym c.in-Words.is) c.words_evidence.ensures

pub returns-in-Cosets : goal.returns-in-Cosets
returns-in-Cosets c =
    let table = view c.args.document.now in
    subst (λ (k : Kind). Reads (λ (evidence : Evidence). evidence) c.cosets_evidence.result (evidence_by k table)) (sym c.in-Cosets.is) c.cosets_evidence.ensures

pub returns-in-Partition : goal.returns-in-Partition
returns-in-Partition c =
    let table = view c.args.document.now in
    subst (λ (k : Kind). Reads (λ (evidence : Evidence). evidence) c.partition_evidence.result (evidence_by k table)) (sym c.in-Partition.is) c.partition_evidence.ensures

pub returns-in-Build : goal.returns-in-Build
returns-in-Build c =
    let table = view c.args.document.now in
    subst (λ (k : Kind). Reads (λ (evidence : Evidence). evidence) c.build_evidence.result (evidence_by k table)) (sym c.in-Build.is) c.build_evidence.ensures

pub returns-in-Product : goal.returns-in-Product
returns-in-Product c =
    let table = view c.args.document.now in
    subst (λ (k : Kind). Reads (λ (evidence : Evidence). evidence) c.product_evidence.result (evidence_by k table)) (sym c.in-Product.is) c.product_evidence.ensures

pub returns-in-Dual : goal.returns-in-Dual
returns-in-Dual c =
    let table = view c.args.document.now in
    subst (λ (k : Kind). Reads (λ (evidence : Evidence). evidence) c.dual_evidence.result (evidence_by k table)) (sym c.in-Dual.is) c.dual_evidence.ensures

pub returns-in-JohnsonDual : goal.returns-in-JohnsonDual
returns-in-JohnsonDual c =
    let table = view c.args.document.now in
    subst (λ (k : Kind). Reads (λ (evidence : Evidence). evidence) c.johnson_dual_evidence.result (evidence_by k table)) (sym c.in-JohnsonDual.is) c.johnson_dual_evidence.ensures

pub returns-in-Odd : goal.returns-in-Odd
returns-in-Odd c =
    let table = view c.args.document.now in
    subst (λ (k : Kind). Reads (λ (evidence : Evidence). evidence) c.odd_evidence.result (evidence_by k table)) (sym c.in-Odd.is) c.odd_evidence.ensures

pub returns-in-JohnsonLocal : goal.returns-in-JohnsonLocal
returns-in-JohnsonLocal c =
    let table = view c.args.document.now in
    subst (λ (k : Kind). Reads (λ (evidence : Evidence). evidence) c.local_dual_evidence.result (evidence_by k table)) (sym c.in-JohnsonLocal.is) c.local_dual_evidence.ensures
