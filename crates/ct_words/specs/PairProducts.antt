-- Products of differences of a word's digits, over lists of pairs of places.
use Rattle.std.specs.Prelude.{ℕ, ℤ, pos, ◌-ℤ◌, List}
use Rattle.ct_words.specs.Counting.PairLists.{product}
use Rattle.ct_words.specs.Word.{digit}
use Rattle.ct_words.specs.Text.{tabulate}

-- the places 0, .., n - 1 of a word of length n
abbrev pub all_places : ℕ → List ℕ
all_places n = tabulate (λ p. p) n

-- the product of x_a - x_b over the pairs (a,b) of places of a list, for the word x of length n
abbrev pub difference_product : ℕ → ℕ → List (ℕ × ℕ) → ℤ
difference_product n x pairs = product (λ p. pos (digit n x p.0) -ℤ pos (digit n x p.1)) pairs
