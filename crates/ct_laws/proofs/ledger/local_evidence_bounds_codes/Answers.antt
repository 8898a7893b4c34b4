use Rattle.ct_laws.proofs.LocalBounds.{local_premises, local_number, local_sound}
use Rattle.ct_laws.proofs.ledger.local_evidence_bounds_codes.Goals as goal

pub returns : goal.returns
returns c = record { premises = local_premises; value = local_number; sound = local_sound }
