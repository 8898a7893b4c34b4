use Rattle.ct_files.proofs.DocumentAnswers.{accepts}
use Rattle.ct_laws.proofs.documents.accepted_documents.Goals as goal

pub returns : goal.returns
returns c = record { evidence = accepts }
