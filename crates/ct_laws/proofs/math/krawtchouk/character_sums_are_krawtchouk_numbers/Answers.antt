use Rattle.ct_words.proofs.Counting.SignedBinomials.{signed_binomial}
use Rattle.ct_words.proofs.Characters.{total-character}
use Rattle.ct_words.specs.Numbers.{krawtchouk}
use Rattle.ct_laws.proofs.math.krawtchouk.character_sums_are_krawtchouk_numbers.Goals as goal

pub returns : goal.returns
unfolding krawtchouk signed_binomial
returns c = total-character
