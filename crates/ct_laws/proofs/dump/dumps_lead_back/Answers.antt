use Rattle.ct_session.specs.Run.{pieces_of}
use Rattle.ct_session.proofs.Existence.{AreStanding-input}
use Rattle.ct_laws.proofs.DumpPieces.{dump_leads_to, dump_is_accepted, pieces_of-short}
use Rattle.ct_laws.proofs.dump.dumps_lead_back.Goals as goal

pub returns-clause-pieces : goal.returns-clause-pieces
returns-clause-pieces c = dump_leads_to

pub returns-clause-accepted : goal.returns-clause-accepted
returns-clause-accepted c = dump_is_accepted

pub returns-clause-of_input : goal.returns-clause-of_input
returns-clause-of_input c = λ input. dump_leads_to (pieces_of input) (AreStanding-input input) (pieces_of-short input)

pub returns-clause-run : goal.returns-clause-run
returns-clause-run c = λ input. dump_is_accepted (pieces_of input) (AreStanding-input input) (pieces_of-short input)
