use Rattle.std.proofs.Common.{sym, ap, ◌∙◌}
use Rattle.ct_files.specs.Document.{document_read_of}
use Rattle.ct_pieces.proofs.check.read.Goals as goal

pub returns-in-Ok-clause-stated : goal.returns-in-Ok-clause-stated
returns-in-Ok-clause-stated c = ap document_read_of (sym c.bytes.ensures) ∙ c.in-Ok.ensures.read
