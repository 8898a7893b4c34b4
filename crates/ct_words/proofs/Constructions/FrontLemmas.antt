-- The first words of a code, and codes that are read at less than they are.
use Rattle.std.proofs.Common.{◌≡◌, ◌≢◌, ℕ, ◌+◌, ◌^◌, ◌<◌, ◌≤◌, List, take, length-take, Option, Some, None, IfSome, All, arith}
use Rattle.std.specs.List.Sorted.{IsStrictlyIncreasing}
use Rattle.std.proofs.lemmas.List.{get_or-take}
use Rattle.std.proofs.lemmas.List.Elements.{All-take}
use Rattle.ct_words.proofs.Counting.Pairs.{AllPairs-take, AllPairs-weaker}
use Rattle.ct_words.specs.Word.{weight, distance}
use Rattle.ct_words.specs.Code.{IsCode}

-- the first words of a code
pub IsCode-take : (n d : ℕ) (w : Option ℕ) (size : ℕ) (words : List ℕ) → IsCode n d w words → IsCode n d w (take size words)
IsCode-take n d w size words code = record {
  lengths = All-take (λ x. x < 2 ^ n) size words code.lengths;
  different = AllPairs-take (λ x y. x ≢ y) size words code.different;
  apart = AllPairs-take (λ x y. d ≤ distance n x y) size words code.apart;
  weights = first_weights w code.weights;
}
  where
    first_weights : (o : Option ℕ) → IfSome o (λ k. All (λ x. weight n x ≡ k) words) → IfSome o (λ k. All (λ x. weight n x ≡ k) (take size words))
    first_weights None each = tt
    first_weights (Some k) each = All-take (λ x. weight n x ≡ k) size words each

-- the first words ascend where all do
pub ascending-take : (size : ℕ) (words : List ℕ) → IsStrictlyIncreasing words → IsStrictlyIncreasing (take size words)
ascending-take size words up = λ k h.
    let long = length-take size words in
    let here = get_or-take size words k 0 (omega arith) in
    let next = get_or-take size words (k + 1) 0 (omega arith) in
    rw (here, next) (up k (omega arith))

-- a code of a distance is one of each smaller distance
pub IsCode-nearer : (n d e : ℕ) (w : Option ℕ) (words : List ℕ) → e ≤ d → IsCode n d w words → IsCode n e w words
IsCode-nearer n d e w words less code = record {
  lengths = code.lengths;
  different = code.different;
  apart = AllPairs-weaker (λ x y. d ≤ distance n x y) (λ x y. e ≤ distance n x y) words (λ x y far. omega arith) code.apart;
  weights = code.weights;
}

-- a code of constant weight is a code
pub IsCode-unweighted : (n d : ℕ) (w : Option ℕ) (words : List ℕ) → IsCode n d w words → IsCode n d None words
IsCode-unweighted n d w words code = record { lengths = code.lengths; different = code.different; apart = code.apart; weights = tt }
