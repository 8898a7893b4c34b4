-- The digits of words in groups of places.
use Rattle.std.specs.Prelude.{◌≡◌, ℕ, ◌/◌, ◌%◌, ◌^◌, ◌≤◌, List, AllPairs}
use Rattle.ct_words.specs.Word.{distance}

-- the digits of the word in a group of so many places, whose last stands `shift` places from the last of the word, as a number
abbrev pub group_digits : ℕ → ℕ → ℕ → ℕ
group_digits shift width x = x / 2 ^ shift % 2 ^ width

-- each two words with the same digits in the group are at distance d at least
abbrev pub AreFarWhereSame : ℕ → ℕ → ℕ → List ℕ → Type 0
AreFarWhereSame shift width d words =
    AllPairs (λ x y. group_digits shift width x ≡ group_digits shift width y → d ≤ distance 32 x y) words
