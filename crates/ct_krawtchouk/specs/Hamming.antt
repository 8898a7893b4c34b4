-- What makes the words of length n a scheme: each term cites a lemma of a lower crate.
use Rattle.std.specs.Prelude.{◌≡◌, ℕ, ◌-◌, ◌≤◌, pos}
use Rattle.ct_words.specs.declared.limits.TheConstants.{MAX_N}
use Rattle.ct_words.specs.Word.{distance}
use Rattle.ct_words.specs.Scheme.{IsPositive, IsSmall}
use Rattle.ct_words.proofs.Counting.SignedBinomials.{signed_binomial, signed_binomial-first}
use Rattle.ct_words.proofs.Characters.{pair_total-nonneg, signed_binomial-small}
use Rattle.ct_words.specs.Numbers.{krawtchouk}

-- over the pairs of any list of words the numbers add up to at least 0
pub krawtchouk-positive : (n k : ℕ) (belongs : ℕ → Type 0) → IsPositive belongs (distance n) (krawtchouk n k)
unfolding krawtchouk signed_binomial
krawtchouk-positive n k belongs = λ words _. pair_total-nonneg n k words

-- the numbers of k = 0 are 1
pub krawtchouk-first : (n i : ℕ) → krawtchouk n 0 i ≡ pos 1
unfolding krawtchouk signed_binomial
krawtchouk-first n i = signed_binomial-first i (n - i)

-- the numbers are small
pub krawtchouk-small : (n k i : ℕ) → i ≤ n → n ≤ MAX_N → IsSmall (krawtchouk n k i)
unfolding krawtchouk signed_binomial
krawtchouk-small n k i within short = signed_binomial-small n k i within short
