use Rattle.std.proofs.lemmas.Result.{IfOk-weaker}
use Rattle.ct_files.specs.Document.{value_of}
use Rattle.ct_files.proofs.Documents.{Reads-right}
use Rattle.ct_files.proofs.reading.read_document.Goals as goal

pub returns-clause-sound : goal.returns-clause-sound
returns-clause-sound c =
    IfOk-weaker c.read_whole.result _ _ (λ document right. right.0) (Reads-right value_of c.args.bytes.now c.read_whole.result c.read_whole.ensures)

pub returns-clause-few : goal.returns-clause-few
returns-clause-few c =
    IfOk-weaker c.read_whole.result _ _ (λ document right. right.1.few) (Reads-right value_of c.args.bytes.now c.read_whole.result c.read_whole.ensures)

pub returns-clause-each : goal.returns-clause-each
returns-clause-each c =
    IfOk-weaker c.read_whole.result _ _ (λ document right. right.1.each) (Reads-right value_of c.args.bytes.now c.read_whole.result c.read_whole.ensures)
