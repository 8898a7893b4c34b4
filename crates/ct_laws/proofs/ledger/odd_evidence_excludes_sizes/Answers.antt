use Rattle.ct_laws.proofs.OddSizes.{odd_premises, odd_value, odd_sound}
use Rattle.ct_laws.proofs.ledger.odd_evidence_excludes_sizes.Goals as goal

pub returns : goal.returns
returns c = record { premises = odd_premises; value = odd_value; sound = odd_sound }
