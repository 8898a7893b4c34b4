use Rattle.std.proofs.Common.{refl}
use Rattle.ct_rules.specs.Rule.{row_of}
use Rattle.ct_table_tests.proofs.rules.known_values.Goals as goal

pub returns : goal.returns
unfolding row_of
returns c = record {
  one_word = refl;
  one_word_of_weight = refl;
  opposite_words = refl;
  lengthened = refl;
  nearer = refl;
  with_parity = refl;
  punctured = refl;
  shortened = refl;
  shortened_odd = refl;
  uuv_of_one = refl;
  uuv_near = refl;
  uuv_far = refl;
  uuv_at_five = refl;
  juxtaposition = refl;
  juxtaposition_turned = refl;
  all_words = refl;
  all_longest_words = refl;
  all_words_of_weight = refl;
  greatest = refl;
  above = refl;
  far_above = refl;
  cut = refl;
  far_words = refl;
  plotkin = refl;
  plotkin_near = refl;
  plotkin_shortest = refl;
  plotkin_below = refl;
  plotkin_longest = refl;
  plotkin_odd = refl;
  plotkin_shortest_odd = refl;
  plotkin_below_odd = refl;
  plotkin_longest_odd = refl;
  sphere_packing = refl;
  sphere_packing_even = refl;
  sphere_packing_of_three = refl;
  sphere_packing_rounded_down = refl;
  parity_above = refl;
  punctured_above = refl;
  shortening = refl;
  shortening_greatest = refl;
  shortening_cut = refl;
  nearer_above = refl;
  lengthened_above = refl;
  lengthened_cut = refl;
}
