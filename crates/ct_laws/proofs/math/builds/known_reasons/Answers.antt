use Rattle.std.proofs.Common.{refl}
use Rattle.ct_build.specs.Build.{is_right_length, gives_weight, is_right_weight, is_right_other, other_of, step_distance, result_size, sizes_fault, few_fault, early_fault}
use Rattle.ct_laws.proofs.math.builds.known_reasons.Goals as goal

pub returns : goal.returns
unfolding is_right_length gives_weight is_right_weight is_right_other other_of step_distance result_size sizes_fault few_fault early_fault
returns c = record {
  at_the_limit = refl;
  above = refl;
  short_before_size = refl;
  size_before_few = refl;
  part_before_other = refl;
  other_before_result = refl;
  pairs = refl;
  pairs_at_the_limit = refl;
  no_other = refl;
  few = refl;
  most_places = refl;
}
