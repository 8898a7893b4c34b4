-- Punctured codes (MacWilliams and Sloane, chapter 1, section 9).
use Rattle.std.specs.Prelude.{ℕ, List, map}
use Rattle.ct_words.specs.Constructions.Places.{other_places, read_at}

-- the words of length n without their digits at the places
abbrev pub punctured : ℕ → List ℕ → List ℕ → List ℕ
punctured n places words = map (λ x. read_at n x (other_places n places)) words
