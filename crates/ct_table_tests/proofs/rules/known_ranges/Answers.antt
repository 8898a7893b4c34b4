use Rattle.std.proofs.Common.{refl}
use Rattle.ct_rules.specs.Rule.{row_of}
use Rattle.ct_table_tests.proofs.rules.known_ranges.Goals as goal

pub returns : goal.returns
unfolding row_of
returns c = record {
  no_weight = refl;
  weight = refl;
  no_entry = refl;
  no_bound = refl;
  opposite_words = refl;
  lengthened = refl;
  nearer = refl;
  parity_of_one = refl;
  parity_odd = refl;
  punctured_long = refl;
  punctured_far = refl;
  shortened = refl;
  uuv_odd_length = refl;
  no_first = refl;
  no_second = refl;
  first_near = refl;
  second_near = refl;
  not_far = refl;
  plotkin_short = refl;
  plotkin_short_odd = refl;
  plotkin_long = refl;
  plotkin_long_odd = refl;
  parity_above_even = refl;
  parity_above_long = refl;
  punctured_above_short = refl;
  punctured_above_near = refl;
  shortening_short = refl;
  nearer_above = refl;
  lengthened_above = refl;
}
