-- The words of a length and a weight by the sum of the places of their ones, whatever number it is taken modulo.
use Rattle.std.specs.Prelude.{ℕ, ◌%◌, ◌==◌, ◌&&◌, List, filter}
use Rattle.ct_words.specs.Word.{weight}
use Rattle.ct_words.specs.Characters.{words_of_length}
use Rattle.ct_sum_classes.specs.SumClass.{place_sum}

-- the words of length m and weight k, the places of whose ones add up to s modulo n, in ascending order
abbrev pub words_of_sum : ℕ → ℕ → ℕ → ℕ → List ℕ
words_of_sum n m k s = filter (λ x. weight m x == k && place_sum m x % n == s % n) (words_of_length m)
