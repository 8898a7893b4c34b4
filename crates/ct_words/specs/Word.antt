-- Binary words, their digits, weight, distance and sum (MacWilliams and Sloane, chapter 1).
-- A word of length n is a number below 2 ^ n; its binary digits, the most significant first, are its places 0 to n - 1.
use Rattle.std.specs.Prelude.{◌≡◌, ℕ, zero, suc, ◌+◌, ◌-◌, ◌/◌, ◌%◌, ◌^◌, ◌<◌, Bool, not, ◌==◌, if◌then◌else◌}

-- at how many of the places 0, .., n - 1 the test holds
abbrev pub places : (ℕ → Bool) → ℕ → ℕ
places test zero = 0
places test (suc n) = (if test n then 1 else 0) + places test n

-- the digit of the word x of length n at place p; place 0 is the leftmost
abbrev pub digit : ℕ → ℕ → ℕ → ℕ
digit n x p = x / 2 ^ (n - 1 - p) % 2

-- the weight of a word: its number of ones
unfoldable pub weight : ℕ → ℕ → ℕ
weight n x = places (λ p. digit n x p == 1) n

-- the distance of two words: the number of places where they differ (Hamming)
unfoldable pub distance : ℕ → ℕ → ℕ → ℕ
distance n x y = places (λ p. not (digit n x p == digit n y p)) n

-- z is the sum of the words x and y without carry: place by place, modulo 2
pub record IsSum (n x y z : ℕ) : Type 0 where
  pub word : z < 2 ^ n
  pub digits : (p : ℕ) → p < n → digit n z p ≡ (digit n x p + digit n y p) % 2
