-- Words of one weight by the sum of the places of their ones (Graham and Sloane 1980, Lower bounds for constant weight codes).
use Rattle.std.specs.Prelude.{ℕ, zero, suc, ◌+◌, ◌%◌, Bool, ◌==◌, ◌&&◌, nat_lt, if◌then◌else◌, List, filter, length}
use Rattle.ct_words.specs.Word.{digit, weight}
use Rattle.ct_words.specs.Characters.{words_of_length}

-- the sum of those of the places 0, .., n - 1 at which the test holds
abbrev pub sum_of_places : (ℕ → Bool) → ℕ → ℕ
sum_of_places test zero = 0
sum_of_places test (suc n) = (if test n then n else 0) + sum_of_places test n

-- the sum of the places at which the word x of length n has a one
unfoldable pub place_sum : ℕ → ℕ → ℕ
place_sum n x = sum_of_places (λ p. digit n x p == 1) n

-- whether the word x of length n has weight w, and the places of its ones add up to r modulo n
abbrev pub in_sum_class : ℕ → ℕ → ℕ → ℕ → Bool
in_sum_class n w r x = weight n x == w && place_sum n x % n == r

-- the sum class r of the words of length n and weight w, in ascending order
abbrev pub sum_class : ℕ → ℕ → ℕ → List ℕ
sum_class n w r = filter (in_sum_class n w r) (words_of_length n)

-- of the numbers below a bound the first at which a function is greatest
abbrev pub greatest_below : (ℕ → ℕ) → ℕ → ℕ
greatest_below f zero = 0
greatest_below f (suc k) = if nat_lt (f (greatest_below f k)) (f k) then k else greatest_below f k

-- the residue of the largest sum class of the words of length n and weight w, the least where there are more
unfoldable pub largest_class : ℕ → ℕ → ℕ
largest_class n w = greatest_below (λ r. length (sum_class n w r)) n
