use Rattle.std.proofs.Common.{◌∙◌, ap, sym}
use Rattle.ct_words.specs.Word.{distance}
use Rattle.ct_words.proofs.WordLemmas.{distance_same, same_from_distance, distance_comm, distance-triangle, distance-le}
use Rattle.ct_laws.proofs.math.words.distance_is_metric.Goals as goal

pub returns : goal.returns
returns c = record {
  zero = λ n x y below_x below_y. (same_from_distance n x y below_x below_y, λ e. sym (ap (distance n x) e) ∙ distance_same n x);
  symmetric = distance_comm;
  triangle = distance-triangle;
  length = distance-le;
}
