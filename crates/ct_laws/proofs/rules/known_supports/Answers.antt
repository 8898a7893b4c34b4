use Rattle.std.proofs.Common.{refl}
use Rattle.ct_duals.specs.Local.{local_bound}
use Rattle.ct_johnson.specs.Bounds.{least_from}
use Rattle.ct_doubly.specs.Doubly.{doubly_after}
use Rattle.ct_rules.specs.Rule.{row_of}
use Rattle.ct_laws.proofs.rules.known_supports.Goals as goal

pub returns : goal.returns
unfolding row_of local_bound doubly_after least_from
returns c = record {
  code = refl;
  premises = refl;
  nothing = refl;
  no_support = refl;
  other_length = refl;
  other_distance = refl;
  of_weight = refl;
  other_weight = refl;
  without_weight = refl;
  weight_by_code = refl;
  code_by_weight = refl;
  odd_size = refl;
  odd_premises = refl;
  not_excluded = refl;
  odd_as_bound = refl;
  bound_as_odd = refl;
  local_bound = refl;
  local_premises = refl;
  local_as_bound = refl;
  bound_as_local = refl;
}
