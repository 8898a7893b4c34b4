-- What makes the words of length n and weight w a scheme: each term cites a lemma of a lower crate.
use Rattle.std.specs.Prelude.{◌≡◌, ℕ, ◌-◌, ◌/◌, ◌^◌, ◌<◌, ◌≤◌, min, pos}
use Rattle.ct_words.specs.declared.limits.TheConstants.{MAX_N}
use Rattle.ct_words.specs.Word.{distance, weight}
use Rattle.ct_words.specs.Scheme.{IsPositive, IsSmall}
use Rattle.ct_words.proofs.Counting.Matchings.{signed_matchings, signed_matchings-first}
use Rattle.ct_words.proofs.PairProducts.{pair_total-matchings_nonneg, signed_matchings-small}
use Rattle.ct_words.specs.Numbers.{johnson}

-- over the pairs of any list of words of the weight the numbers add up to at least 0
pub johnson-positive : (n w k : ℕ) → IsPositive (λ x. (x < 2 ^ n) × (weight n x ≡ w)) (λ x y. distance n x y / 2) (johnson n w k)
unfolding johnson signed_matchings
johnson-positive n w k = λ words belong. pair_total-matchings_nonneg n w k words (λ i d l. (belong i d l).1)

-- the numbers of k = 0 are 1
pub johnson-first : (n w i : ℕ) → johnson n w 0 i ≡ pos 1
unfolding johnson signed_matchings
johnson-first n w i = signed_matchings-first (w - i) (n - w - i) i

-- the numbers are small
pub johnson-small : (n w k i : ℕ) → n ≤ MAX_N → w ≤ n → k ≤ min w (n - w) → i ≤ min w (n - w) → IsSmall (johnson n w k i)
unfolding johnson signed_matchings
johnson-small n w k i short within row index = signed_matchings-small n w k i short within row index
