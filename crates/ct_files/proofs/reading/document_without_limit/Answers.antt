use Rattle.std.proofs.Common.{Result, subst}
use Rattle.toml.specs.View.{view}
use Rattle.ct_fields.specs.Reads.{Reads}
use Rattle.ct_fields.specs.declared.fault.DocumentFault.{DocumentFault}
use Rattle.ct_files.specs.Document.{DocumentValue, value_of}
use Rattle.ct_files.proofs.ReadSteps.{document-table}
use Rattle.ct_files.proofs.reading.document_without_limit.Goals as goal

pub returns : goal.returns
returns c =
    subst (λ (read : Result DocumentValue DocumentFault). Reads value_of c.document.result read)
    (document-table c.args.bytes.now (view c.in_ok-table.table) c.in_ok-table.ensures) c.document.ensures
