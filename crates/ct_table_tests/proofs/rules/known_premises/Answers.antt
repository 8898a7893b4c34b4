use Rattle.std.proofs.Common.{refl}
use Rattle.ct_rules.specs.Rule.{row_of}
use Rattle.ct_table_tests.proofs.rules.known_premises.Goals as goal

pub returns : goal.returns
unfolding row_of
returns c = record {
  one_word = refl;
  one_word_of_weight = refl;
  opposite_words = refl;
  lengthened = refl;
  nearer = refl;
  with_parity = refl;
  punctured = refl;
  shortened = refl;
  uuv = refl;
  uuv_last = refl;
  uuv_odd = refl;
  uuv_even = refl;
  uuv_up = refl;
  juxtaposition = refl;
  first_short = refl;
  second_short = refl;
  all_words = refl;
  all_words_of_weight = refl;
  far_words = refl;
  plotkin = refl;
  sphere_packing = refl;
  parity_above = refl;
  parity_above_last = refl;
  punctured_above = refl;
  punctured_above_first = refl;
  shortening = refl;
  shortening_first = refl;
  nearer_above = refl;
  lengthened_above = refl;
}
