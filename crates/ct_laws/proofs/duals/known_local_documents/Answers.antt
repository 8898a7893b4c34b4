use Rattle.std.proofs.Common.{refl}
use Rattle.ct_fields.specs.LastFields.{last_fields}
use Rattle.ct_laws.proofs.duals.known_local_documents.Goals as goal

pub returns : goal.returns
unfolding last_fields
returns c = record {
  read = refl;
  nothing_allowed = refl;
  left_out = refl;
  greatest = refl;
  near = refl;
  far = refl;
  descending = refl;
  repeated = refl;
  negative = refl;
  after_multipliers = refl;
  odd_distance = refl;
  no_weight = refl;
  neither = refl;
  even = refl;
  allowances_before_others = refl;
  of_kind_jdual = refl;
}
