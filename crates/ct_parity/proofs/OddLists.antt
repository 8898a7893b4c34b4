-- What f adds up to over the pairs of an odd number of words.
use Rattle.std.proofs.Common.{◌≡◌, ℕ, zero, suc, ◌*◌, ◌%◌, ◌<◌, List, length, sym, ◌∙◌, subst, arith}
use Rattle.std.specs.Prelude.{ℤ, pos, ◌*ℤ◌, ◌≤ℤ◌}
use Rattle.std.proofs.lemmas.Int.{ints}
use Rattle.ct_words.specs.Word.{distance}
use Rattle.ct_words.specs.Counting.Sums.{total}
use Rattle.ct_words.specs.Counting.PairTotals.{pair_total}
use Rattle.ct_words.specs.Counting.Binomials.{choose}
use Rattle.ct_words.proofs.Counting.SignedBinomials.{signed_binomial}
use Rattle.ct_words.proofs.Counting.Combinations.{pair_total-combination, total_below-le, product-le, total-constant}
use Rattle.ct_words.proofs.Counting.Totals.{total-congruence}
use Rattle.ct_words.proofs.Characters.{pair_total-odd}
use Rattle.ct_words.specs.Numbers.{krawtchouk, multiplier, combination}
use Rattle.ct_krawtchouk.specs.Hamming.{krawtchouk-first}
use Rattle.ct_parity.specs.OddSum.{least_sum, odd_sum}

-- the numbers of k over the pairs of an odd number of words
pub krawtchouk-odd : (n k : ℕ) (words : List ℕ) → length words % 2 ≡ 1 → pos (choose n k) ≤ℤ pair_total (λ x y. krawtchouk n k (distance n x y)) words
unfolding krawtchouk signed_binomial
krawtchouk-odd n k words odd = pair_total-odd n k words odd

-- the numbers of k = 0, which are all 1
krawtchouk-pairs : (n : ℕ) (words : List ℕ) → pair_total (λ x y. krawtchouk n 0 (distance n x y)) words ≡ pos (length words * length words)
krawtchouk-pairs n words =
    let many = length words in
    let one = total-constant 1 words in
    let row : (x : ℕ) → total (λ y. krawtchouk n 0 (distance n x y)) words ≡ pos many =
    λ x. let same = total-congruence (λ y. krawtchouk n 0 (distance n x y)) (λ y. pos 1) words (λ y. krawtchouk-first n (distance n x y)) in omega (arith, ints) in
    total-congruence (λ x. total (λ y. krawtchouk n 0 (distance n x y)) words) (λ x. pos many) words row ∙ total-constant many words

-- the numbers of any k
pub least_sum-le : (n k : ℕ) (words : List ℕ) → length words % 2 ≡ 1 → pos (least_sum n (length words) k) ≤ℤ pair_total (λ x y. krawtchouk n k (distance n x y)) words
least_sum-le n zero words odd = let same = krawtchouk-pairs n words in omega (arith, ints)
least_sum-le n (suc k) words odd = krawtchouk-odd n (suc k) words odd

-- and f
pub odd_sum-le : (n : ℕ) (c : List ℤ) (words : List ℕ) → ((k : ℕ) → k < length c → pos 0 ≤ℤ multiplier c k) → length words % 2 ≡ 1
    → odd_sum n (length words) c ≤ℤ pair_total (λ x y. combination (krawtchouk n) c (distance n x y)) words
odd_sum-le n c words some odd =
    let f : ℕ → ℕ → ℕ → ℤ = λ k x y. krawtchouk n k (distance n x y) in
    let each = total_below-le (λ k. multiplier c k *ℤ pos (least_sum n (length words) k)) (λ k. multiplier c k *ℤ pair_total (f k) words) (length c)
    (λ k l. product-le (multiplier c k) (pos (least_sum n (length words) k)) (pair_total (f k) words) (some k l) (least_sum-le n k words odd)) in
    subst (λ (z : ℤ). odd_sum n (length words) c ≤ℤ z) (sym (pair_total-combination (multiplier c) f (length c) words)) each
