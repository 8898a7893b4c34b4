use Rattle.std.proofs.Common.{Result, sym, subst}
use Rattle.ct_fields.specs.Reads.{Reads}
use Rattle.ct_fields.specs.declared.fault.DocumentFault.{DocumentFault}
use Rattle.ct_files.specs.Document.{DocumentValue, value_of}
use Rattle.ct_files.proofs.Documents.{document_read_of-short}
use Rattle.ct_files.proofs.ReadSteps.{document-long}
use Rattle.ct_files.proofs.reading.read_whole.Goals as goal

pub returns-then-bytes-gt-MAX_DOCUMENT : goal.returns-then-bytes-gt-MAX_DOCUMENT
returns-then-bytes-gt-MAX_DOCUMENT c = λ other. document-long c.args.bytes.now c.if-bytes-gt-MAX_DOCUMENT.true

pub returns : goal.returns
returns c =
    subst (λ (read : Result DocumentValue DocumentFault). Reads value_of c.document_without_limit.result read)
    (sym (document_read_of-short c.args.bytes.now c.if-bytes-gt-MAX_DOCUMENT.false)) c.document_without_limit.ensures
