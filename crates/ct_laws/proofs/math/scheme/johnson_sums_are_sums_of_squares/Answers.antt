use Rattle.ct_words.proofs.Counting.Matchings.{signed_matchings}
use Rattle.ct_words.proofs.PairProducts.{total-squares_of_differences}
use Rattle.ct_words.specs.Numbers.{johnson}
use Rattle.ct_laws.proofs.math.scheme.johnson_sums_are_sums_of_squares.Goals as goal

pub returns : goal.returns
unfolding johnson signed_matchings
returns c = total-squares_of_differences
