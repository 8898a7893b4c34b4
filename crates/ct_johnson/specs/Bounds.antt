-- Johnson's bounds on A(n,d,w) and A(n,d) (Johnson 1962; MacWilliams and Sloane, The Theory of Error-Correcting Codes,
-- chapter 17; Brouwer, Shearer, Sloane and Smith 1990). A bound above the greatest of the table is taken as that one.
use Rattle.std.specs.Prelude.{ℕ, zero, suc, ◌+◌, ◌-◌, ◌*◌, ◌/◌, ◌%◌, ◌^◌, ◌<◌, ◌≤◌, min, Bool, ◌==◌, ◌&&◌, nat_lt, nat_le, if◌then◌else◌, Option, Some, None, IsTrue, IsFalse}
use Rattle.ct_words.specs.Counting.Binomials.{choose, volume}
use Rattle.ct_words.specs.declared.limits.TheConstants.{MAX_BOUND}
use Rattle.ct_johnson.specs.declared.columns.TheConstants.{MAX_COUNTED}

-- ⌊n·u / w⌋, where u bounds the words of weight w that have a one at a given place
abbrev pub drop_one_value : ℕ → ℕ → ℕ → ℕ
drop_one_value n w u = min (n * u / w) MAX_BOUND

-- ⌊n·u / (n - w)⌋, where u bounds the words of weight w that have a zero at a given place
abbrev pub drop_zero_value : ℕ → ℕ → ℕ → ℕ
drop_zero_value n w u = min (n * u / (n - w)) MAX_BOUND

-- the sum of the bounds for the words with a zero and with a one at a place
abbrev pub split_value : ℕ → ℕ → ℕ
split_value u v = min (u + v) MAX_BOUND

-- how many ordered pairs of words both hold a one at a place, over n places with t ones in all, at least: k(k - 1)
-- pairs at a place with k ones, and fewest in all where the t ones are spread as evenly as can be
abbrev pub least_pairs : ℕ → ℕ → ℕ
least_pairs n t = n * (t / n * (t / n - 1)) + 2 * (t / n * (t % n))

-- m words of length n, weight w and distance 2δ are too many: each two of them have at most w - δ ones in common
abbrev pub are_too_many : ℕ → ℕ → ℕ → ℕ → Bool
are_too_many n δ w m = nat_lt ((w - δ) * (m * (m - 1))) (least_pairs n (w * m))

-- the least of the k numbers m, m + 1, .. that passes the test
unfoldable pub least_from : (ℕ → Bool) → ℕ → ℕ → Option ℕ
least_from test m zero = None
least_from test m (suc k) = if test m then Some m else least_from test (m + 1) k

-- the least number of words, from 2 to 1,000, that is too many
abbrev pub column_count_value : ℕ → ℕ → ℕ → Option ℕ
column_count_value n d w = if nat_le (d / 2) w then least_from (are_too_many n (d / 2) w) 2 (MAX_COUNTED - 1) else None

-- the same by its property: it is too many, and no smaller one is
pub record IsLeastTooMany (n δ w m : ℕ) : Type 0 where
  pub some : 2 ≤ m
  pub counted : m ≤ MAX_COUNTED
  pub fits : δ ≤ w
  pub too_many : IsTrue (are_too_many n δ w m)
  pub least : (k : ℕ) → 2 ≤ k → k < m → IsFalse (are_too_many n δ w k)

-- there is none where w < δ, or no number from 2 to 1,000 is too many
abbrev pub NoneTooMany : ℕ → ℕ → ℕ → Type 0
NoneTooMany n δ w = δ ≤ w → (k : ℕ) → 2 ≤ k → k ≤ MAX_COUNTED → IsFalse (are_too_many n δ w k)

-- ⌊2^(n - 1)·u / C(n,w)⌋, where u bounds A(n,d,w) for an even d: 0 where w > n, and no word has the weight
abbrev pub average : ℕ → ℕ → ℕ → ℕ
average n w u = 2 ^ (n - 1) * u / choose n w

-- the same as a bound of the table
abbrev pub elias_bassalygo_value : ℕ → ℕ → ℕ → ℕ
elias_bassalygo_value n w u = min (average n w u) MAX_BOUND

-- for the distance 2δ - 1: ⌊2^n·F / (F·V(n,δ - 1) + R)⌋, where F = ⌊n/δ⌋ and R = C(n,δ) - C(2δ - 1,δ - 1)·u is above 0
abbrev pub johnson_odd : ℕ → ℕ → ℕ → Option ℕ
johnson_odd n δ u =
    if nat_lt (choose (2 * δ - 1) (δ - 1) * u) (choose n δ)
    then Some (2 ^ n * (n / δ) / (n / δ * volume n (δ - 1) + (choose n δ - choose (2 * δ - 1) (δ - 1) * u)))
    else None

-- Johnson's bound for an odd d ≤ n, where u bounds A(n,d + 1,d)
abbrev pub johnson_value : ℕ → ℕ → ℕ → Option ℕ
johnson_value n d u = if d % 2 == 1 && nat_le d n then johnson_odd n ((d + 1) / 2) u else None
