-- Words each two of which are far apart, as lists of digits.
use Rattle.std.proofs.Common.{◌≡◌, ℕ, ◌≤◌, List, take, length}
use Rattle.std.specs.Prelude.{Bool}
use Rattle.std.specs.List.{All, AllPairs}
use Rattle.std.proofs.lemmas.List.Elements.{All-take}
use Rattle.ct_words.specs.Counting.Words.{apart, ones}
use Rattle.ct_words.proofs.Counting.Pairs.{AllPairs-take}

-- words of n digits, each two of which have distance at least d
pub record IsSpread (n d : ℕ) (cs : List (List Bool)) : Type 0 where
  pub lengths : All (λ x. length x ≡ n) cs
  pub distances : AllPairs (λ x y. d ≤ apart x y) cs

-- such words of one weight
pub record IsSpreadOfWeight (n d w : ℕ) (cs : List (List Bool)) : Type 0 where
  pub spread : IsSpread n d cs
  pub weights : All (λ x. ones x ≡ w) cs

-- no such list, without weight or of one weight, is longer than u
abbrev pub IsSpreadBound : ℕ → ℕ → ℕ → Type 0
IsSpreadBound n d u = (cs : List (List Bool)) → IsSpread n d cs → length cs ≤ u

abbrev pub IsWeightBound : ℕ → ℕ → ℕ → ℕ → Type 0
IsWeightBound n d w u = (cs : List (List Bool)) → IsSpreadOfWeight n d w cs → length cs ≤ u

-- the first words of such a list
pub spread-take : (n d w k : ℕ) (cs : List (List Bool)) → IsSpreadOfWeight n d w cs → IsSpreadOfWeight n d w (take k cs)
spread-take n d w k cs code =
    record {
      spread =
          record {
            lengths = All-take (λ x. length x ≡ n) k cs code.spread.lengths;
            distances = AllPairs-take (λ x y. d ≤ apart x y) k cs code.spread.distances;
          };
      weights = All-take (λ x. ones x ≡ w) k cs code.weights;
    }
