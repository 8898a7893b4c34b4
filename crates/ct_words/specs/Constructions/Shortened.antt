-- Shortened codes (MacWilliams and Sloane, chapter 1, section 9).
use Rattle.std.specs.Prelude.{ℕ, ◌-◌, Bool, ◌==◌, List, filter, count_by, Option}
use Rattle.std.specs.List.{list_all, zip}
use Rattle.std.specs.Option.{option_map}
use Rattle.ct_words.specs.Word.{digit}
use Rattle.ct_words.specs.Constructions.Punctured.{punctured}

-- whether the word x of length n has at each of the places the digit that is given for it
abbrev pub has_digits : ℕ → List ℕ → List ℕ → ℕ → Bool
has_digits n places digits x = list_all (λ t. digit n x t.0 == t.1) (zip places digits)

-- the words of length n that have the digits at the places, without these places
abbrev pub shortened : ℕ → List ℕ → List ℕ → List ℕ → List ℕ
shortened n places digits words = punctured n places (filter (has_digits n places digits) words)

-- the weight that they have: less the ones among the digits
abbrev pub shortened_weight : List ℕ → Option ℕ → Option ℕ
shortened_weight digits w = option_map (λ k. k - count_by (λ a. a == 1) digits) w
