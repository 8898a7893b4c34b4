use Rattle.ct_files.proofs.DocumentAnswers.{too_many, no_tables}
use Rattle.ct_laws.proofs.documents.bytes_without_table.Goals as goal

pub returns : goal.returns
returns c = record { bytes = too_many; no_toml = no_tables }
