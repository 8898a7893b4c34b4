-- Words with one more digit at their end (MacWilliams and Sloane, chapter 1, section 9).
use Rattle.std.specs.Prelude.{ℕ, ◌%◌, List, map}
use Rattle.ct_words.specs.Word.{weight}
use Rattle.ct_words.specs.Constructions.Joined.{followed_by}

-- each word followed by the digit 0
abbrev pub lengthened : List ℕ → List ℕ
lengthened words = map (λ x. followed_by 1 x 0) words

-- each word followed by the digit 1
abbrev pub one_appended : List ℕ → List ℕ
one_appended words = map (λ x. followed_by 1 x 1) words

-- each word of length n followed by the parity of its weight: 1 where the weight is odd, else 0
abbrev pub with_parity : ℕ → List ℕ → List ℕ
with_parity n words = map (λ x. followed_by 1 x (weight n x % 2)) words
