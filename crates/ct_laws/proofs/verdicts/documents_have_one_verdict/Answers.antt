use Rattle.std.proofs.Common.{sym, ◌∙◌}
use Rattle.ct_io.specs.Lines.{lines_of}
use Rattle.ct_kind.specs.declared.fault.SubmitFault.TheVariants.{Memory}
use Rattle.ct_verify.specs.Inside.Read.{unread}
use Rattle.ct_verify.specs.Inside.Verdict.{verdict_of}
use Rattle.ct_verify.specs.declared.verdict.Verdict.TheVariants.{No}
use Rattle.ct_verify.specs.declared.verdict.Why.TheVariants.{Evidence}
use Rattle.ct_verify.proofs.Documents.{verdict_is, one_verdict}
use Rattle.ct_verify.proofs.ReadingLemmas.{unread-sound}
use Rattle.ct_verify.proofs.VerdictLemmas.{never_memory}
use Rattle.ct_laws.proofs.verdicts.documents_have_one_verdict.Goals as goal

pub returns-clause-some : goal.returns-clause-some
returns-clause-some c = λ document. (verdict_of document, verdict_is document)

pub returns-clause-one : goal.returns-clause-one
returns-clause-one c = λ document v w h k. sym (one_verdict document v h) ∙ one_verdict document w k

pub returns-clause-not_memory : goal.returns-clause-not_memory
returns-clause-not_memory c = λ document k h. never_memory (lines_of document) unread 1 k unread-sound (one_verdict document (No k (Evidence Memory)) h)
