-- Binary words as lists of digits, the first digit first; true is the digit 1.
use Rattle.std.specs.Prelude.{ℕ, zero, suc, ◌+◌, Bool, true, false, cond, not, List, [], ◌∷◌, ◌++◌, map}

-- the words of n digits, in ascending order
abbrev pub all_words : ℕ → List (List Bool)
all_words zero = [] ∷ []
all_words (suc n) = map (λ w. false ∷ w) (all_words n) ++ map (λ w. true ∷ w) (all_words n)

-- the weight of a word: how many of its digits are 1
abbrev pub ones : List Bool → ℕ
ones [] = 0
ones (a ∷ x) = cond a 1 0 + ones x

-- whether two digits differ
abbrev pub differ : Bool → Bool → Bool
differ true b = not b
differ false b = b

-- the Hamming distance of two words of one length: at how many places they differ
abbrev pub apart : List Bool → List Bool → ℕ
apart [] y = 0
apart (a ∷ x) [] = 0
apart (a ∷ x) (b ∷ y) = cond (differ a b) 1 0 + apart x y
