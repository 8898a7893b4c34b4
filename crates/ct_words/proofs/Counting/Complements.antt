-- Words with each digit turned: zeros for ones and ones for zeros.
use Rattle.std.proofs.Common.{◌≡◌, ℕ, ◌+◌, ◌≤◌, List, [], ◌∷◌, map, length, get_or, refl, arith}
use Rattle.std.specs.Prelude.{Bool, true, false, not}
use Rattle.std.proofs.lemmas.List.{length-map}
use Rattle.std.proofs.lemmas.List.Elements.{All-map}
use Rattle.ct_words.specs.Counting.Words.{apart, ones}
use Rattle.ct_words.proofs.Counting.Pairs.{AllPairs-map, AllPairs-weaker}
use Rattle.ct_words.proofs.Counting.Spread.{IsSpreadOfWeight, IsWeightBound}

-- the word with each digit turned
abbrev pub complement : List Bool → List Bool
complement [] = []
complement (a ∷ x) = not a ∷ complement x

pub length-complement : (x : List Bool) → length (complement x) ≡ length x
length-complement [] = refl
length-complement (a ∷ x) = let ih = length-complement x in omega arith

-- its ones are the zeros of the word
pub ones-complement : (x : List Bool) → ones x + ones (complement x) ≡ length x
ones-complement [] = refl
ones-complement (false ∷ x) = let ih = ones-complement x in omega arith
ones-complement (true ∷ x) = let ih = ones-complement x in omega arith

-- two words differ where their complements do
pub apart-complement : (x y : List Bool) → apart (complement x) (complement y) ≡ apart x y
apart-complement [] y = refl
apart-complement (a ∷ x) [] = refl
apart-complement (false ∷ x) (false ∷ y) = let ih = apart-complement x y in omega arith
apart-complement (false ∷ x) (true ∷ y) = let ih = apart-complement x y in omega arith
apart-complement (true ∷ x) (false ∷ y) = let ih = apart-complement x y in omega arith
apart-complement (true ∷ x) (true ∷ y) = let ih = apart-complement x y in omega arith

-- a code of weight w becomes one of weight n - w
pub spread-complement : (n d w v : ℕ) (cs : List (List Bool)) → w + v ≡ n → IsSpreadOfWeight n d w cs → IsSpreadOfWeight n d v (map complement cs)
spread-complement n d w v cs e code =
    let far : (x y : List Bool) → d ≤ apart x y → d ≤ apart (complement x) (complement y) =
    λ x y h. let same = apart-complement x y in omega arith in
    record {
      spread =
          record {
            lengths =
                All-map (λ x. length x ≡ n) complement cs
                (λ k z l. let long = code.spread.lengths k z l in let same = length-complement (get_or cs k z) in omega arith);
            distances =
                AllPairs-map (λ x y. d ≤ apart x y) complement cs
                (AllPairs-weaker (λ x y. d ≤ apart x y) (λ x y. d ≤ apart (complement x) (complement y)) cs far code.spread.distances);
          };
      weights =
          All-map (λ x. ones x ≡ v) complement cs
          (λ k z l.
          let long = code.spread.lengths k z l in
          let weight = code.weights k z l in
          let sum = ones-complement (get_or cs k z) in
          omega arith);
    }

-- so what bounds the codes of weight n - w bounds those of weight w
pub complement_bound : (n d w v u : ℕ) → w + v ≡ n → IsWeightBound n d v u → IsWeightBound n d w u
complement_bound n d w v u e bound cs code =
    let most = bound (map complement cs) (spread-complement n d w v cs e code) in
    let same = length-map cs complement in
    omega arith
