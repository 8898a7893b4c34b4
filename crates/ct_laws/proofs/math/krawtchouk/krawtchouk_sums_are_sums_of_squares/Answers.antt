use Rattle.ct_words.proofs.Counting.SignedBinomials.{signed_binomial}
use Rattle.ct_words.proofs.Characters.{pair_total-characters}
use Rattle.ct_words.specs.Numbers.{krawtchouk}
use Rattle.ct_laws.proofs.math.krawtchouk.krawtchouk_sums_are_sums_of_squares.Goals as goal

pub returns : goal.returns
unfolding krawtchouk signed_binomial
returns c = pair_total-characters
