-- The terms of the Johnson numbers.
use Rattle.std.specs.Prelude.{ℕ, ◌-◌, ◌*◌}
use Rattle.ct_words.specs.Counting.Binomials.{choose, factorial}

-- the term of j in the sum that the Johnson number J_k(i) is, without its sign
abbrev pub term_count : ℕ → ℕ → ℕ → ℕ → ℕ → ℕ
term_count n w k i j = choose i j * choose i j * factorial j * choose (w - i) (k - j) * choose (n - w - i) (k - j) * factorial (k - j)
