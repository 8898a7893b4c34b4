-- Codes as lists of lists of digits, on which words are counted.
use Rattle.std.proofs.Common.{◌≡◌, ◌≢◌, ℕ, ◌^◌, ◌<◌, ◌≤◌, List, map, length, get_or, ap, subst, ◌∙◌, arith}
use Rattle.std.specs.List.{AllPairs}
use Rattle.ct_words.proofs.WordLemmas.{distance_same}
use Rattle.std.specs.Prelude.{Bool, None, Some}
use Rattle.std.proofs.lemmas.List.{length-map}
use Rattle.std.proofs.lemmas.List.Elements.{All-map}
use Rattle.ct_words.specs.Counting.Words.{apart, ones}
use Rattle.ct_words.proofs.Counting.Pairs.{AllPairs-map, AllPairs-weaker, AllPairs-within}
use Rattle.ct_words.proofs.Counting.Spread.{IsSpread, IsSpreadOfWeight, IsSpreadBound, IsWeightBound}
use Rattle.ct_words.specs.Word.{distance, weight}
use Rattle.ct_words.proofs.DigitLists.{digits_of, length-digits_of, ones-digits_of, apart-digits_of}
use Rattle.ct_words.proofs.DigitValues.{word_value, word_value-lt, weight-word_value, distance-word_value}
use Rattle.ct_words.specs.Code.{IsCode}

-- words far apart, as lists of digits
spread_from_distances : (n d : ℕ) (words : List ℕ) → AllPairs (λ x y. d ≤ distance n x y) words → IsSpread n d (map (digits_of n) words)
spread_from_distances n d words each =
    let far : (x y : ℕ) → d ≤ distance n x y → d ≤ apart (digits_of n x) (digits_of n y) =
    λ x y h. let e = apart-digits_of n x y in omega arith in
    record {
      lengths = All-map (λ x. length x ≡ n) (digits_of n) words (λ k e l. length-digits_of n _);
      distances =
          AllPairs-map (λ x y. d ≤ apart x y) (digits_of n) words
          (AllPairs-weaker (λ x y. d ≤ distance n x y) (λ x y. d ≤ apart (digits_of n x) (digits_of n y)) words far each);
    }

-- the words of a code, as lists of digits
pub IsSpread-from_code : (n d : ℕ) (words : List ℕ) → IsCode n d None words → IsSpread n d (map (digits_of n) words)
IsSpread-from_code n d words code = spread_from_distances n d words code.apart

-- the words of a code of constant weight, as lists of digits
pub IsSpreadOfWeight-from_code : (n d w : ℕ) (words : List ℕ) → IsCode n d (Some w) words → IsSpreadOfWeight n d w (map (digits_of n) words)
IsSpreadOfWeight-from_code n d w words code =
    record {
      spread = spread_from_distances n d words code.apart;
      weights = All-map (λ x. ones x ≡ w) (digits_of n) words (λ k e l. ones-digits_of n _ ∙ code.weights k e l);
    }

-- what bounds each such list bounds each code
pub bound_from_spread : (n d v : ℕ) → IsSpreadBound n d v → (words : List ℕ) → IsCode n d None words → length words ≤ v
bound_from_spread n d v bound words code =
    let least = bound (map (digits_of n) words) (IsSpread-from_code n d words code) in
    let same = length-map words (digits_of n) in
    omega arith

pub bound_from_weight : (n d w v : ℕ) → IsWeightBound n d w v → (words : List ℕ) → IsCode n d (Some w) words → length words ≤ v
bound_from_weight n d w v bound words code =
    let least = bound (map (digits_of n) words) (IsSpreadOfWeight-from_code n d w words code) in
    let same = length-map words (digits_of n) in
    omega arith

-- words that are apart are different
different_from_apart : (n d : ℕ) (x y : ℕ) → 1 ≤ d → d ≤ distance n x y → x ≢ y
different_from_apart n d x y h far same =
    let self = distance_same n x in
    let near = ap (distance n x) same in
    omega arith

-- lists of digits that are apart write the words of a code
pub code_from_spread : (n d : ℕ) (cs : List (List Bool)) → 1 ≤ d → IsSpread n d cs → IsCode n d None (map word_value cs)
code_from_spread n d cs h spread =
    let far : AllPairs (λ x y. d ≤ distance n x y) (map word_value cs) =
    AllPairs-map (λ x y. d ≤ distance n x y) word_value cs
    (AllPairs-within (λ x. length x ≡ n) (λ x y. d ≤ apart x y) (λ x y. d ≤ distance n (word_value x) (word_value y)) cs
    (λ x y p q h'. let same = distance-word_value n x y p q in omega arith) spread.lengths spread.distances) in
    record {
      lengths =
          All-map (λ x. x < 2 ^ n) word_value cs
          (λ k e l. let P : ℕ → Type 0 = λ m. word_value (get_or cs k e) < 2 ^ m in subst P (spread.lengths k e l) (word_value-lt _));
      different = AllPairs-weaker (λ x y. d ≤ distance n x y) (λ x y. x ≢ y) (map word_value cs) (λ x y h'. different_from_apart n d x y h h') far;
      apart = far;
      weights = tt;
    }

-- those of one weight one of constant weight
pub code_from_weight : (n d w : ℕ) (cs : List (List Bool)) → 1 ≤ d → IsSpreadOfWeight n d w cs → IsCode n d (Some w) (map word_value cs)
code_from_weight n d w cs h code =
    let words = code_from_spread n d cs h code.spread in
    record {
      lengths = words.lengths;
      different = words.different;
      apart = words.apart;
      weights = All-map (λ x. weight n x ≡ w) word_value cs (λ k e l. weight-word_value n _ (code.spread.lengths k e l) ∙ code.weights k e l);
    }

-- what bounds each code bounds each list of digits
pub spread_bound_from_codes : (n d u : ℕ) → 1 ≤ d → ((words : List ℕ) → IsCode n d None words → length words ≤ u) → IsSpreadBound n d u
spread_bound_from_codes n d u h bound cs spread =
    let most = bound (map word_value cs) (code_from_spread n d cs h spread) in
    let same = length-map cs word_value in
    omega arith

-- what bounds each code of constant weight bounds each list of digits
pub weight_bound_from_codes : (n d w u : ℕ) → 1 ≤ d → ((words : List ℕ) → IsCode n d (Some w) words → length words ≤ u) → IsWeightBound n d w u
weight_bound_from_codes n d w u h bound cs spread =
    let most = bound (map word_value cs) (code_from_weight n d w cs h spread) in
    let same = length-map cs word_value in
    omega arith
