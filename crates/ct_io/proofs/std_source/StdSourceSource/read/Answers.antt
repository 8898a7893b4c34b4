use Rattle.ct_io.proofs.FaultsLemmas.{Rose-counted}
use Rattle.ct_io.proofs.std_source.StdSourceSource.read.Goals as goal

pub returns-in-Err-clause-failed : goal.returns-in-Err-clause-failed
returns-in-Err-clause-failed g c = Rose-counted c.args.self.now.faults c.saturating_add-self.result c.saturating_add-self.ensures
