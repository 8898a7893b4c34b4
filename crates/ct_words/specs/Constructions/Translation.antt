-- Words with one word added to each (MacWilliams and Sloane, chapter 1).
use Rattle.std.specs.Prelude.{ℕ, ◌-◌, ◌^◌, ◌==◌, bit_xor, List, map, filter}
use Rattle.ct_words.specs.Word.{weight}

-- the sums without carry of each word and the word `by`
abbrev pub translated : ℕ → List ℕ → List ℕ
translated by words = map (λ x. bit_xor x by) words

-- the word of length n with the digit 1 at each place
abbrev pub all_ones : ℕ → ℕ
all_ones n = 2 ^ n - 1

-- the complements of words of length n: the all-one word added, so that zeros and ones change places
abbrev pub complemented : ℕ → List ℕ → List ℕ
complemented n words = translated (all_ones n) words

-- the words of length n and weight w among the sums of each word and `by`
abbrev pub selected : ℕ → ℕ → ℕ → List ℕ → List ℕ
selected n by w words = filter (λ x. weight n x == w) (translated by words)
