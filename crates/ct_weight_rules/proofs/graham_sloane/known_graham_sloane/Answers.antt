use Rattle.std.proofs.Common.{refl}
use Rattle.ct_words.specs.Word.{weight}
use Rattle.ct_sum_classes.specs.SumClass.{place_sum}
use Rattle.ct_weight_rules.proofs.graham_sloane.known_graham_sloane.Goals as goal

pub returns : goal.returns
unfolding weight place_sum
returns c = record {
  value = refl;
  other_value = refl;
  defined = refl;
  last = refl;
  rests_on = refl;
  no_residue = refl;
  empty = refl;
  no_ones = refl;
  farther = refl;
  no_weight = refl;
}
