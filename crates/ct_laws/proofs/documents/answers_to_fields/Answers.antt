use Rattle.ct_files.proofs.DocumentAnswers.{fields_by}
use Rattle.ct_files.proofs.Written.{fields-read}
use Rattle.ct_laws.proofs.documents.answers_to_fields.Goals as goal

pub returns : goal.returns
returns c = record { answers = fields_by; read_back = fields-read }
