use Rattle.ct_rules.proofs.Derivations.{derived_claims_are_true, lines_are_true}
use Rattle.ct_laws.proofs.derivations.derived_claims_are_true.Goals as goal

pub returns : goal.returns
returns c = record { derived = derived_claims_are_true; lines = lines_are_true }
