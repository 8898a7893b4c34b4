-- Even numbers, and the words of even weight (MacWilliams and Sloane, chapter 1, section 9).
use Rattle.std.specs.Prelude.{ℕ, ◌+◌, ◌%◌, ◌==◌, List, filter}
use Rattle.ct_words.specs.Word.{weight}
use Rattle.ct_words.specs.Characters.{words_of_length}

-- the least even number from k on, 2⌈k/2⌉
abbrev pub even_from : ℕ → ℕ
even_from k = k + k % 2

-- all words of length n of even weight, in ascending order
abbrev pub even_words : ℕ → List ℕ
even_words n = filter (λ x. weight n x % 2 == 0) (words_of_length n)
