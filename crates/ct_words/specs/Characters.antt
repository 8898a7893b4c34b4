-- The characters of binary words, and the words of a weight (MacWilliams and Sloane, chapter 5, section 4).
use Rattle.std.specs.Prelude.{ℕ, ◌^◌, ◌&&◌, ◌==◌, ℤ, List, filter}
use Rattle.ct_words.specs.Counting.Alternating.{sign}
use Rattle.ct_words.specs.Word.{places, digit, weight}
use Rattle.ct_words.specs.Text.{tabulate}

-- u·x: at how many places two words of length n both hold a one
abbrev pub common_ones : ℕ → ℕ → ℕ → ℕ
common_ones n u x = places (λ p. digit n u p == 1 && digit n x p == 1) n

-- the character of the word u at the word x: (-1)^(u·x)
abbrev pub character : ℕ → ℕ → ℕ → ℤ
character n u x = sign (common_ones n u x)

-- the words 0, .., 2^n - 1 of length n
abbrev pub words_of_length : ℕ → List ℕ
words_of_length n = tabulate (λ x. x) (2 ^ n)

-- those of weight k
abbrev pub words_of_weight : ℕ → ℕ → List ℕ
words_of_weight n k = filter (λ x. weight n x == k) (words_of_length n)
