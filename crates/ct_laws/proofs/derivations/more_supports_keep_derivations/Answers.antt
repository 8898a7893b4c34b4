use Rattle.ct_rules.proofs.MoreSupports.{follows_over_more, derivation_over_more, derived_over_more, best_over_more}
use Rattle.ct_laws.proofs.derivations.more_supports_keep_derivations.Goals as goal

pub returns : goal.returns
returns c = record {
  line = follows_over_more;
  derivation = derivation_over_more;
  derived = derived_over_more;
  best = best_over_more;
}
