use Rattle.ct_io.specs.Lines.{lines_of}
use Rattle.ct_laws.proofs.Alike.{alike_replies}
use Rattle.ct_laws.proofs.proposals.outputs_differ_in_documents_alone.Goals as goal

pub returns-clause-output : goal.returns-clause-output
returns-clause-output c = λ input output other a b h k. (alike_replies (lines_of input) output other a b h k).0

pub returns-clause-refused : goal.returns-clause-refused
returns-clause-refused c = λ input output other a b h k. (alike_replies (lines_of input) output other a b h k).1
