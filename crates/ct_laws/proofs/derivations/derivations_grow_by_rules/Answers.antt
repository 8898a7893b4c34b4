use Rattle.ct_rules.proofs.Derivations.{derivation-nil, derivation-push, derivation-prefix, lines_are_derived}
use Rattle.ct_rules.proofs.JoinedDerivations.{derived_by_rule}
use Rattle.ct_laws.proofs.derivations.derivations_grow_by_rules.Goals as goal

pub returns : goal.returns
returns c = record {
  empty = derivation-nil;
  grown = derivation-push;
  front = derivation-prefix;
  lines = lines_are_derived;
  by_rule = derived_by_rule;
}
