use Rattle.ct_files.proofs.Evidences.{Reads-sound}
use Rattle.ct_files.proofs.reading.read_evidence.Goals as goal

pub returns-clause-sound : goal.returns-clause-sound
returns-clause-sound c = Reads-sound c.args.bytes.now c.read.result c.read.ensures
