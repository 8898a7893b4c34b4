use Rattle.std.proofs.Common.{refl}
use Rattle.ct_words.specs.Word.{weight}
use Rattle.ct_build.specs.Build.{is_right_length, gives_weight, is_right_weight, is_right_other, other_of, step_distance, built, sizes_fault, few_fault, early_fault, build_fault}
use Rattle.ct_laws.proofs.math.builds.known_builds.Goals as goal

pub returns : goal.returns
unfolding weight is_right_length gives_weight is_right_weight is_right_other other_of step_distance built sizes_fault few_fault early_fault build_fault
returns c = record {
  accepted = refl;
  words = refl;
  nearer = refl;
  part_before_other = refl;
  other_before_short = refl;
  short_before_few = refl;
  few = refl;
  empty = refl;
  weighted = refl;
  weightless = refl;
  one_more = refl;
  no_distance = refl;
}
