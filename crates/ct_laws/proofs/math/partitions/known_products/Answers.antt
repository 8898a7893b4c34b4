use Rattle.std.proofs.Common.{refl}
use Rattle.ct_laws.proofs.math.partitions.known_products.Goals as goal

pub returns : goal.returns
returns c = record {
  even_distance = refl;
  even_size = refl;
  unequal_size = refl;
  unequal_size_turned = refl;
  unequal_words = refl;
  weighted_distance = refl;
  weighted_distance_turned = refl;
  weighted_size = refl;
  unequal_between = refl;
  equal_pairs = refl;
}
