-- Words as two lists of digits each, one for each half.
use Rattle.std.proofs.Common.{◌≡◌, ℕ, ◌+◌, ◌≤◌, min, List, map, take, length, get_or, arith}
use Rattle.std.specs.Prelude.{Bool}
use Rattle.std.specs.List.{All, AllPairs}
use Rattle.std.proofs.lemmas.List.{length-map}
use Rattle.std.proofs.lemmas.List.Elements.{All-map, All-take}
use Rattle.ct_words.specs.Counting.Words.{apart, ones}
use Rattle.ct_words.proofs.Counting.Pairs.{AllPairs-map, AllPairs-within, AllPairs-take}
use Rattle.ct_words.proofs.Counting.Complements.{complement, length-complement, ones-complement, apart-complement}

abbrev pub Halves : Type 0
Halves = List Bool × List Bool

abbrev pub first_half : Halves → List Bool
first_half c = c.0

abbrev pub last_half : Halves → List Bool
last_half c = c.1

-- n digits, w of them ones
pub record IsHalf (n w : ℕ) (x : List Bool) : Type 0 where
  pub long : length x ≡ n
  pub weight : ones x ≡ w

-- both halves
pub record AreHalves (n1 w1 n2 w2 : ℕ) (c : Halves) : Type 0 where
  pub first : IsHalf n1 w1 (first_half c)
  pub last : IsHalf n2 w2 (last_half c)

-- at how many places of both halves two words differ
abbrev pub halves_apart : Halves → Halves → ℕ
halves_apart b c = apart (first_half b) (first_half c) + apart (last_half b) (last_half c)

-- such words, each two of which have distance at least d
pub record AreFarHalves (n1 w1 n2 w2 d : ℕ) (cs : List Halves) : Type 0 where
  pub halves : All (AreHalves n1 w1 n2 w2) cs
  pub distances : AllPairs (λ b c. d ≤ halves_apart b c) cs

-- no list of them is longer than u
abbrev pub IsHalvesBound : ℕ → ℕ → ℕ → ℕ → ℕ → ℕ → Type 0
IsHalvesBound n1 w1 n2 w2 d u = (cs : List Halves) → AreFarHalves n1 w1 n2 w2 d cs → length cs ≤ u

-- the images of words are such words where each is one and none come closer
pub far_images : (P : Halves → Type 0) (n1 w1 n2 w2 d : ℕ) (f : Halves → Halves) (cs : List Halves)
    → ((c : Halves) → P c → AreHalves n1 w1 n2 w2 (f c))
    → ((b c : Halves) → P b → P c → d ≤ halves_apart b c → d ≤ halves_apart (f b) (f c))
    → All P cs → AllPairs (λ b c. d ≤ halves_apart b c) cs → AreFarHalves n1 w1 n2 w2 d (map f cs)
far_images P n1 w1 n2 w2 d f cs halves far each distances =
    record {
      halves = All-map (AreHalves n1 w1 n2 w2) f cs (λ k z l. halves (get_or cs k z) (each k z l));
      distances =
          AllPairs-map (λ b c. d ≤ halves_apart b c) f cs
          (AllPairs-within P (λ b c. d ≤ halves_apart b c) (λ b c. d ≤ halves_apart (f b) (f c)) cs far each distances);
    }

-- the first words of a list
pub far_take : (n1 w1 n2 w2 d k : ℕ) (cs : List Halves) → AreFarHalves n1 w1 n2 w2 d cs → AreFarHalves n1 w1 n2 w2 d (take k cs)
far_take n1 w1 n2 w2 d k cs code =
    record {
      halves = All-take (AreHalves n1 w1 n2 w2) k cs code.halves;
      distances = AllPairs-take (λ b c. d ≤ halves_apart b c) k cs code.distances;
    }

-- what bounds the images of the words bounds the words
bound_of_images : (n1 w1 n2 w2 m1 v1 m2 v2 d u : ℕ) (f : Halves → Halves)
    → ((c : Halves) → AreHalves n1 w1 n2 w2 c → AreHalves m1 v1 m2 v2 (f c))
    → ((b c : Halves) → halves_apart (f b) (f c) ≡ halves_apart b c)
    → IsHalvesBound m1 v1 m2 v2 d u → IsHalvesBound n1 w1 n2 w2 d u
bound_of_images n1 w1 n2 w2 m1 v1 m2 v2 d u f halves same bound cs code =
    let most =
    bound (map f cs)
    (far_images (AreHalves n1 w1 n2 w2) m1 v1 m2 v2 d f cs halves (λ b c p q far. let e = same b c in omega arith) code.halves code.distances) in
    let size = length-map cs f in
    omega arith

-- the halves in the other order
abbrev swapped : Halves → Halves
swapped c = (last_half c, first_half c)

pub swapped_bound : (n1 w1 n2 w2 d u : ℕ) → IsHalvesBound n2 w2 n1 w1 d u → IsHalvesBound n1 w1 n2 w2 d u
swapped_bound n1 w1 n2 w2 d u =
    bound_of_images n1 w1 n2 w2 n2 w2 n1 w1 d u swapped (λ c h. record { first = h.last; last = h.first }) (λ b c. omega arith)

-- each digit of the first half turned
abbrev turned : Halves → Halves
turned c = (complement (first_half c), last_half c)

pub turned_bound : (n1 w1 v1 n2 w2 d u : ℕ) → w1 + v1 ≡ n1 → IsHalvesBound n1 v1 n2 w2 d u → IsHalvesBound n1 w1 n2 w2 d u
turned_bound n1 w1 v1 n2 w2 d u e =
    bound_of_images n1 w1 n2 w2 n1 v1 n2 w2 d u turned
    (λ c h.
    let long = h.first.long in
    let weight = h.first.weight in
    let same = length-complement (first_half c) in
    let sum = ones-complement (first_half c) in
    record { first = record { long = omega arith; weight = omega arith }; last = h.last })
    (λ b c. let same = apart-complement (first_half b) (first_half c) in omega arith)

-- the same numbers, told otherwise
pub same_bound : (m1 v1 n1 w1 n2 w2 d u : ℕ) → m1 ≡ n1 → v1 ≡ w1 → IsHalvesBound m1 v1 n2 w2 d u → IsHalvesBound n1 w1 n2 w2 d u
same_bound m1 v1 n1 w1 n2 w2 d u e f bound cs code = bound cs (rw (e, f) code)

-- the lesser of two bounds is one
pub lesser_bound : (n1 w1 n2 w2 d u v : ℕ) → IsHalvesBound n1 w1 n2 w2 d u → IsHalvesBound n1 w1 n2 w2 d v → IsHalvesBound n1 w1 n2 w2 d (min u v)
lesser_bound n1 w1 n2 w2 d u v one other cs code =
    let a = one cs code in
    let b = other cs code in
    omega arith
