-- The words of a doubly constant weight code as two lists of digits each.
use Rattle.std.proofs.Common.{◌≡◌, ℕ, ◌+◌, ◌/◌, ◌%◌, ◌^◌, ◌<◌, ◌≤◌, List, map, get_or, refl, ap, ap₂, subst, ◌∙◌, arith, pow_pos, div-one}
use Rattle.std.specs.Prelude.{Some}
use Rattle.std.specs.List.{All, AllPairs}
use Rattle.std.proofs.Math.Nat.{div-add-mod'}
use Rattle.std.proofs.lemmas.List.{length-map}
use Rattle.std.proofs.lemmas.List.Elements.{All-map}
use Rattle.ct_words.proofs.Counting.Pairs.{AllPairs-map, AllPairs-weaker}
use Rattle.ct_words.specs.Word.{weight, distance}
use Rattle.ct_words.proofs.DigitLists.{digits_of, length-digits_of, ones-digits_of, apart-digits_of}
use Rattle.ct_words.specs.Code.{IsCode}
use Rattle.ct_words.proofs.Constructions.JoinedLemmas.{weight-followed_by, distance-followed_by}
use Rattle.ct_words.specs.Doubly.{IsDoubly, IsTrueDoublyUpper}
use Rattle.ct_doubly.proofs.Halves.{Halves, AreHalves, halves_apart, AreFarHalves, IsHalvesBound}

-- both halves of a word, as lists of digits
abbrev halves_of : ℕ → ℕ → ℕ → Halves
halves_of n1 n2 x = (digits_of n1 (x / 2 ^ n2), digits_of n2 (x % 2 ^ n2))

-- the distance of two words is that of their first halves and of their last halves together
distance-halves : (n1 n2 x y : ℕ) → halves_apart (halves_of n1 n2 x) (halves_of n1 n2 y) ≡ distance (n1 + n2) x y
distance-halves n1 n2 x y =
    let power = pow_pos n2 in
    let first = apart-digits_of n1 (x / 2 ^ n2) (y / 2 ^ n2) in
    let last = apart-digits_of n2 (x % 2 ^ n2) (y % 2 ^ n2) in
    let parts = distance-followed_by n1 n2 (x / 2 ^ n2) (x % 2 ^ n2) (y / 2 ^ n2) (y % 2 ^ n2) (omega arith) (omega arith) in
    let whole = ap₂ (distance (n1 + n2)) (div-add-mod' x (2 ^ n2)) (div-add-mod' y (2 ^ n2)) in
    omega arith

-- the words of a code
far_from_code : (n1 w1 n2 w2 d : ℕ) (words : List ℕ) → IsDoubly n1 w1 n2 w2 d words → AreFarHalves n1 w1 n2 w2 d (map (halves_of n1 n2) words)
far_from_code n1 w1 n2 w2 d words code =
    record {
      halves =
          All-map (AreHalves n1 w1 n2 w2) (halves_of n1 n2) words
          (λ k z l.
          let x = get_or words k z in
          record {
            first = record { long = length-digits_of n1 (x / 2 ^ n2); weight = ones-digits_of n1 (x / 2 ^ n2) ∙ code.first_weights k z l };
            last = record { long = length-digits_of n2 (x % 2 ^ n2); weight = ones-digits_of n2 (x % 2 ^ n2) ∙ code.last_weights k z l };
          });
      distances =
          AllPairs-map (λ b c. d ≤ halves_apart b c) (halves_of n1 n2) words
          (AllPairs-weaker (λ x y. d ≤ distance (n1 + n2) x y) (λ x y. d ≤ halves_apart (halves_of n1 n2 x) (halves_of n1 n2 y)) words
          (λ x y far. let same = distance-halves n1 n2 x y in omega arith) code.apart);
    }

-- what bounds each list of halves bounds each code
pub bound_from_halves : (n1 w1 n2 w2 d u : ℕ) → IsHalvesBound n1 w1 n2 w2 d u → IsTrueDoublyUpper n1 w1 n2 w2 d u
bound_from_halves n1 w1 n2 w2 d u bound words code =
    let most = bound (map (halves_of n1 n2) words) (far_from_code n1 w1 n2 w2 d words code) in
    let size = length-map words (halves_of n1 n2) in
    omega arith

-- a doubly constant weight code is a code whose weight is the sum of both
pub IsCode-from_doubly : (n1 w1 n2 w2 d : ℕ) (words : List ℕ) → IsDoubly n1 w1 n2 w2 d words → IsCode (n1 + n2) d (Some (w1 + w2)) words
IsCode-from_doubly n1 w1 n2 w2 d words code =
    record {
      lengths = code.lengths;
      different = code.different;
      apart = code.apart;
      weights = λ k z l.
          let x = get_or words k z in
          let power = pow_pos n2 in
          let first = code.first_weights k z l in
          let last = code.last_weights k z l in
          let whole = ap (weight (n1 + n2)) (div-add-mod' x (2 ^ n2)) in
          let parts = weight-followed_by n1 n2 (x / 2 ^ n2) (x % 2 ^ n2) (omega arith) in
          omega arith;
    }

-- and a code of constant weight is one without a last half
pub doubly-from_code : (n w d : ℕ) (words : List ℕ) → IsCode n d (Some w) words → IsDoubly n w 0 0 d words
unfolding weight
doubly-from_code n w d words code =
    let same : n ≡ n + 0 = omega arith in
    record {
      lengths = subst (λ m. All (λ x. x < 2 ^ m) words) same code.lengths;
      different = code.different;
      apart = subst (λ m. AllPairs (λ x y. d ≤ distance m x y) words) same code.apart;
      first_weights = λ k z l. ap (weight n) (div-one (get_or words k z)) ∙ code.weights k z l;
      last_weights = λ k z l. refl;
    }
