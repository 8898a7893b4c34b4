-- A bound on doubly constant weight codes (Johnson 1972; Brouwer, Shearer, Sloane and Smith 1990; Agrell, Vardy and Zeger 2000).
-- The numbers n1 and w1 are the length of the first half of each word and its weight, n2 and w2 those of the last half, and d is the distance.
use Rattle.std.specs.Prelude.{ℕ, zero, suc, ◌+◌, ◌-◌, ◌*◌, ◌/◌, ◌%◌, min, Bool, nat_lt, nat_le, if◌then◌else◌, Option, Some, None}
use Rattle.ct_words.specs.Counting.Binomials.{choose}
use Rattle.ct_words.specs.declared.limits.TheConstants.{MAX_BOUND}
use Rattle.ct_johnson.specs.Bounds.{least_from}
use Rattle.ct_johnson.specs.declared.columns.TheConstants.{MAX_COUNTED}

-- the squares of the numbers of ones at n places, added up, where the t ones in all are spread over the places as evenly as can be
abbrev pub least_squares : ℕ → ℕ → ℕ
least_squares n t = n * (t / n * (t / n)) + 2 * (t / n * (t % n)) + t % n

-- m words at distance 2δ are too many: each two have at most w1 + w2 - δ ones in common, so that the squares of the numbers of ones at
-- the places add up to at most (w1 + w2)·m² - δ·m(m - 1)
abbrev pub are_too_many_by_squares : ℕ → ℕ → ℕ → ℕ → ℕ → ℕ → Bool
are_too_many_by_squares n1 w1 n2 w2 δ m = nat_lt ((w1 + w2) * (m * m)) (δ * (m * (m - 1)) + (least_squares n1 (w1 * m) + least_squares n2 (w2 * m)))

-- at most u, and one less than m where there is an m
abbrev pub below_found : Option ℕ → ℕ → ℕ
below_found None u = u
below_found (Some m) u = min (m - 1) u

-- the bound that asks for no other: 1 where two words cannot differ at d places; else the least of the number of all words of these
-- weights, the greatest bound of the table, and one less than the least number of words, from 2 to 1,000, that is too many
abbrev pub counted_bound : ℕ → ℕ → ℕ → ℕ → ℕ → ℕ
counted_bound n1 w1 n2 w2 d =
    if nat_lt (2 * (min w1 (n1 - w1) + min w2 (n2 - w2))) d then 1
    else below_found (least_from (are_too_many_by_squares n1 w1 n2 w2 (d / 2)) 2 (MAX_COUNTED - 1)) (min (choose n1 w1 * choose n2 w2) MAX_BOUND)

-- the lesser of u and ⌊n·v / k⌋, where k of n places have a digit and v bounds the words that have it at a given one; u where k is 0
abbrev pub shortened_bound : ℕ → ℕ → ℕ → ℕ → ℕ
shortened_bound n k v u = if nat_le 1 k then min (n * v / k) u else u

-- the bound after s rounds, each of which looks at the words with a one, or with a zero, at a place of the first half, or of the last
unfoldable pub doubly_after : ℕ → ℕ → ℕ → ℕ → ℕ → ℕ → ℕ
doubly_after zero n1 w1 n2 w2 d = counted_bound n1 w1 n2 w2 d
doubly_after (suc s) n1 w1 n2 w2 d =
    shortened_bound n1 w1 (doubly_after s (n1 - 1) (w1 - 1) n2 w2 d)
    (shortened_bound n1 (n1 - w1) (doubly_after s (n1 - 1) w1 n2 w2 d)
    (shortened_bound n2 w2 (doubly_after s n1 w1 (n2 - 1) (w2 - 1) d)
    (shortened_bound n2 (n2 - w2) (doubly_after s n1 w1 (n2 - 1) w2 d)
    (doubly_after s n1 w1 n2 w2 d))))

-- the bound after three rounds
abbrev pub doubly : ℕ → ℕ → ℕ → ℕ → ℕ → ℕ
doubly n1 w1 n2 w2 d = doubly_after 3 n1 w1 n2 w2 d
