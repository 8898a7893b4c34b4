-- Codes as lists of words each two of which are different and far apart.
use Rattle.std.proofs.Common.{◌≡◌, ◌≢◌, ℕ, ◌^◌, ◌<◌, ◌≤◌, List, get_or, All, ap, lt_trans, arith}
use Rattle.std.specs.Prelude.{AllPairs, Option, IfSome}
use Rattle.ct_words.proofs.Counting.Pairs.{AllPairs-weaker}
use Rattle.ct_words.specs.Word.{weight, distance}
use Rattle.ct_words.proofs.WordLemmas.{distance-pos, distance_same, distance_comm}
use Rattle.ct_words.specs.Code.{IsCode}

-- two words of length n that are different, and at distance at least d
abbrev pub AreFar : ℕ → ℕ → ℕ → ℕ → Type 0
AreFar n d x y = (1 ≤ distance n x y) × (d ≤ distance n x y)

-- it goes both ways
pub AreFar-turned : (n d x y : ℕ) → AreFar n d x y → AreFar n d y x
AreFar-turned n d x y far =
    let turned = distance_comm n x y in
    let some = far.0 in
    let apart = far.1 in
    (omega arith, omega arith)

-- such words are not equal
pub different_from_far : (n d x y : ℕ) → AreFar n d x y → x ≢ y
different_from_far n d x y far same =
    let self = distance_same n x in
    let near = ap (distance n x) same in
    let some = far.0 in
    omega arith

-- the words of a code
pub far_from_code : (n d : ℕ) (w : Option ℕ) (words : List ℕ) → IsCode n d w words → AllPairs (AreFar n d) words
far_from_code n d w words code = λ i j e order within. (
  distance-pos n (get_or words i e) (get_or words j e) (code.lengths i e (lt_trans order within)) (code.lengths j e within)
      (code.different i j e order within),
  code.apart i j e order within,
)

-- and the way back
pub code_from_far : (n d : ℕ) (w : Option ℕ) (words : List ℕ) → All (λ x. x < 2 ^ n) words → AllPairs (AreFar n d) words
    → IfSome w (λ k. All (λ x. weight n x ≡ k) words) → IsCode n d w words
code_from_far n d w words lengths far weights = record {
  lengths = lengths;
  different = AllPairs-weaker (AreFar n d) (λ x y. x ≢ y) words (different_from_far n d) far;
  apart = AllPairs-weaker (AreFar n d) (λ x y. d ≤ distance n x y) words (λ x y h. h.1) far;
  weights = weights;
}
