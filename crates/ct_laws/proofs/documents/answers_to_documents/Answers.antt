use Rattle.ct_files.proofs.DocumentAnswers.{answers, no_kind}
use Rattle.ct_laws.proofs.documents.answers_to_documents.Goals as goal

pub returns : goal.returns
returns c = record { no_kind = no_kind; answers = answers }
