use Rattle.ct_laws.proofs.AcceptedProposals.{accepted-alone, accepted-beside}
use Rattle.ct_laws.proofs.FindIds.{find_id-named, find_id-different}
use Rattle.ct_laws.proofs.proposals.proposals_are_accepted.Goals as goal

pub returns : goal.returns
returns c = record {
  alone = λ e d bound stop text proposal entry same. accepted-alone e d proposal.0 entry same proposal.1;
  beside = λ e d bound stop text proposal pieces entry same free room small. accepted-beside e d proposal.0 pieces entry same proposal.1 free room small;
  named = find_id-named;
  different = find_id-different;
}
