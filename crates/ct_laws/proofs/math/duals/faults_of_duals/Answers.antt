use Rattle.ct_duals.proofs.Faults.{below-from_none, none-from_below, lead-means, lead-from, above-means, above-from}
use Rattle.ct_laws.proofs.math.duals.faults_of_duals.Goals as goal

pub returns : goal.returns
returns c = record {
  accepted = λ number dual. (below-from_none number dual, λ h. none-from_below number dual h.0 h.1);
  lead = λ number dual. (lead-means number dual, lead-from number dual);
  above = λ number dual at value allowed. (above-means number dual at value allowed, above-from number dual at value allowed);
}
