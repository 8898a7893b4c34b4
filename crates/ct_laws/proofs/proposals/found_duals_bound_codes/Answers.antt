use Rattle.ct_find.proofs.FoundDuals.{found, shown, even-distances, premises-none, bound-is, bound-true, plain-some}
use Rattle.ct_finder.proofs.FoundLemmas.{stop-least}
use Rattle.ct_find.specs.Proposal.{stop_for}
use Rattle.ct_laws.proofs.proposals.found_duals_bound_codes.Goals as goal

pub returns : goal.returns
returns c = record {
  entry = λ e d entry same. (found e d entry same).entry;
  form = λ e d entry same. (found e d entry same).form;
  accepted = λ e d entry same. (found e d entry same).accepted;
  even_distances = even-distances;
  nothing_allowed = λ e d entry same. (found e d entry same).nothing;
  bound = bound-is;
  shown = shown;
  least = λ e d p entry same stops. stop-least p (stop_for e) d (shown e d entry same) stops;
  no_premises = λ e d entry same. premises-none d (found e d entry same).nothing;
  true_upper = bound-true;
  without_weight = plain-some;
}
