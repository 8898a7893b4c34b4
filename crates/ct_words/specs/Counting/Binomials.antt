-- Binomial coefficients, factorials and the size of a ball.
use Rattle.std.specs.Prelude.{ℕ, zero, suc, ◌+◌, ◌*◌}
use Rattle.ct_words.specs.Counting.Sums.{sum_below}

-- how many ways there are to take k things out of n: Pascal's rule, 0 where k > n
abbrev pub choose : ℕ → ℕ → ℕ
choose n zero = 1
choose zero (suc k) = 0
choose (suc n) (suc k) = choose n k + choose n (suc k)

-- the product 1 · 2 · .. · k, which is 1 at k = 0
abbrev pub factorial : ℕ → ℕ
factorial zero = 1
factorial (suc k) = suc k * factorial k

-- the sum of choose n j over j = 0 .. e: how many words of length n lie within distance e of one of
-- them (MacWilliams and Sloane, The Theory of Error-Correcting Codes, chapter 1, section 5)
abbrev pub volume : ℕ → ℕ → ℕ
volume n e = sum_below (choose n) (suc e)
