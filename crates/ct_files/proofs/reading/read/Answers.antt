use Rattle.std.proofs.Common.{Result, sym, subst}
use Rattle.ct_fields.specs.Reads.{Reads}
use Rattle.ct_fields.specs.declared.fault.DocumentFault.{DocumentFault}
use Rattle.ct_kind.specs.declared.evidence.Evidence.{Evidence}
use Rattle.ct_files.proofs.DocumentAnswers.{read_of-short, read_of-long}
use Rattle.ct_files.proofs.reading.read.Goals as goal

pub returns-then-bytes-gt-MAX_DOCUMENT : goal.returns-then-bytes-gt-MAX_DOCUMENT
returns-then-bytes-gt-MAX_DOCUMENT c = λ other. read_of-long c.args.bytes.now c.if-bytes-gt-MAX_DOCUMENT.true

pub returns : goal.returns
returns c =
    subst (λ (read : Result Evidence DocumentFault). Reads (λ (evidence : Evidence). evidence) c.read_without_limit.result read)
    (sym (read_of-short c.args.bytes.now c.if-bytes-gt-MAX_DOCUMENT.false)) c.read_without_limit.ensures
