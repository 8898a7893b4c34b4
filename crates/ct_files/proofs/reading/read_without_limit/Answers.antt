use Rattle.std.proofs.Common.{Result, subst}
use Rattle.toml.specs.View.{view}
use Rattle.ct_fields.specs.Reads.{Reads}
use Rattle.ct_fields.specs.declared.fault.DocumentFault.{DocumentFault}
use Rattle.ct_kind.specs.declared.evidence.Evidence.{Evidence}
use Rattle.ct_files.proofs.ReadSteps.{evidence-table}
use Rattle.ct_files.proofs.reading.read_without_limit.Goals as goal

pub returns : goal.returns
returns c =
    subst (λ (read : Result Evidence DocumentFault). Reads (λ (evidence : Evidence). evidence) c.evidence.result read)
    (evidence-table c.args.bytes.now (view c.in_ok-table.table) c.in_ok-table.ensures) c.evidence.ensures
