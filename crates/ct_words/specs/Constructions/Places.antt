-- Places of a word, and the word that is left without some of them.
use Rattle.std.specs.Prelude.{ℕ, ◌<◌, Bool, not, ◌==◌, List, [], ◌∷◌, length, All, filter}
use Rattle.std.specs.List.{list_any}
use Rattle.std.specs.List.Sorted.{IsStrictlyIncreasing}
use Rattle.ct_words.specs.Word.{digit}
use Rattle.ct_words.specs.PairProducts.{all_places}
use Rattle.ct_words.specs.Constructions.Joined.{followed_by}

-- these are distinct places of a word of length n, in ascending order
pub record ArePlaces (n : ℕ) (places : List ℕ) : Type 0 where
  pub ascending : IsStrictlyIncreasing places
  pub within : All (λ p. p < n) places

-- whether the place is one of these
abbrev pub is_among : List ℕ → ℕ → Bool
is_among places p = list_any (λ q. q == p) places

-- the places of a word of length n that are none of these, in ascending order
abbrev pub other_places : ℕ → List ℕ → List ℕ
other_places n places = filter (λ p. not (is_among places p)) (all_places n)

-- the word whose digits are those of the word x of length n at these places, in their order
abbrev pub read_at : ℕ → ℕ → List ℕ → ℕ
read_at n x [] = 0
read_at n x (p ∷ ps) = followed_by (length ps) (digit n x p) (read_at n x ps)
