-- How many subsets of the first numbers there are, by how many elements they have and by the sum of these.
use Rattle.std.specs.Prelude.{◌≡◌, ℕ, ◌%◌, ◌<◌, ◌≤◌, ◌==◌, ◌&&◌, List, [], slice_index, count_by}
use Rattle.std.proofs.Common.{get_or}
use Rattle.ct_words.specs.Word.{weight}
use Rattle.ct_words.specs.declared.limits.TheConstants.{MAX_BOUND}
use Rattle.ct_words.specs.Characters.{words_of_length}
use Rattle.ct_sum_classes.specs.SumClass.{place_sum}

-- how many words of length m have weight k, the places of whose ones add up to s modulo n
abbrev pub size_of : ℕ → ℕ → ℕ → ℕ → ℕ
size_of n m k s = count_by (λ x. weight m x == k && place_sum m x % n == s) (words_of_length m)

-- the row has these numbers for weight k, at each s below n
abbrev pub IsRow : ℕ → ℕ → ℕ → List ℕ → Type 0
IsRow n m k row = (s : ℕ) → s < n → slice_index row s ≡ size_of n m k s

-- the table has them for each weight up to w
abbrev pub IsTable : ℕ → ℕ → ℕ → List (List ℕ) → Type 0
IsTable n m w table = (k : ℕ) → k ≤ w → IsRow n m k (get_or table k [])

-- no number of the row is above the greatest bound
abbrev pub IsLow : ℕ → List ℕ → Type 0
IsLow n row = (s : ℕ) → s < n → slice_index row s ≤ MAX_BOUND
