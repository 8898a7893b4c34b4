-- Two words that cannot differ at d places, and all words of two weights.
use Rattle.std.proofs.Common.{◌≡◌, ℕ, ◌+◌, ◌-◌, ◌*◌, ◌<◌, ◌≤◌, min, List, [], ◌∷◌, map, length, get_or, sym, ap, ◌∙◌, inl, inr, arith, leb-true}
use Rattle.std.specs.Prelude.{Bool, true, cond, ◌==◌, nat_le, filter, count_by}
use Rattle.std.specs.List.{All}
use Rattle.std.proofs.lemmas.Bool.{cases_eq, eq-eqb, cond-true, lt-leb}
use Rattle.std.proofs.lemmas.List.{length-map}
use Rattle.std.proofs.lemmas.List.Elements.{All-map, All-filter, filter_passes}
use Rattle.std.proofs.lemmas.List.Kept.{AllPairs-filter}
use Rattle.std.proofs.lemmas.List.Sums.{length-filter}
use Rattle.ct_words.specs.Counting.Binomials.{choose}
use Rattle.ct_words.specs.Counting.Words.{all_words, apart, ones}
use Rattle.ct_words.proofs.Counting.Sums.{sum_by-constant, sum_by-scale}
use Rattle.ct_words.proofs.Counting.Pairs.{AllPairs-map, AllPairs-within}
use Rattle.ct_words.proofs.Counting.DoubleCounting.{double_count, count_by-none}
use Rattle.ct_words.proofs.Counting.Words.{lengths-all_words, count_of_weight}
use Rattle.ct_words.proofs.Counting.Distances.{apart_symmetric, apart_triangle, same_from_apart}
use Rattle.ct_words.proofs.Counting.Spheres.{ball_size}
use Rattle.ct_words.proofs.Counting.Spread.{IsSpreadOfWeight}
use Rattle.ct_words.proofs.Counting.CommonOnes.{ones-common}
use Rattle.ct_words.proofs.Counting.Complements.{complement, length-complement, ones-complement, apart-complement}
use Rattle.ct_johnson.proofs.Weights.{weight_bound-all}
use Rattle.ct_doubly.proofs.Halves.{Halves, first_half, last_half, IsHalf, AreHalves, halves_apart, AreFarHalves, IsHalvesBound}

-- two halves of weight w differ at no more than twice the ones, or twice the zeros
apart-le_least : (n w : ℕ) (x y : List Bool) → IsHalf n w x → IsHalf n w y → apart x y ≤ 2 * min w (n - w)
apart-le_least n w x y h k =
    let long = h.long in
    let long_too = k.long in
    let weight = h.weight in
    let weight_too = k.weight in
    let sum = ones-common x y (long ∙ sym long_too) in
    let turned = ones-complement x in
    let turned_too = ones-complement y in
    let size = length-complement x in
    let size_too = length-complement y in
    let same = apart-complement x y in
    let other_sum = ones-common (complement x) (complement y) (omega arith) in
    omega arith

-- so where both halves together cannot differ at d places there is one word at most
pub far_bound : (n1 w1 n2 w2 d : ℕ) → 2 * (min w1 (n1 - w1) + min w2 (n2 - w2)) < d → IsHalvesBound n1 w1 n2 w2 d 1
far_bound n1 w1 n2 w2 d h [] code = omega arith
far_bound n1 w1 n2 w2 d h (x ∷ []) code = omega arith
far_bound n1 w1 n2 w2 d h (x ∷ y ∷ cs) code =
    let here = code.halves 0 x (omega arith) in
    let there = code.halves 1 x (omega arith) in
    let far = code.distances 0 1 x (omega arith) (omega arith) in
    let first = apart-le_least n1 w1 (first_half x) (first_half y) here.first there.first in
    let last = apart-le_least n2 w2 (last_half x) (last_half y) here.last there.last in
    absurd (omega arith)

-- whether the first half of a word is x
abbrev has_first : List Bool → Halves → Bool
has_first x c = nat_le (apart (first_half c) x) 0

-- words with one first half have last halves that are far apart
last_halves : (n1 w1 n2 w2 d : ℕ) (x : List Bool) (cs : List Halves) → length x ≡ n1 → AreFarHalves n1 w1 n2 w2 d cs
    → IsSpreadOfWeight n2 d w2 (map last_half (filter (has_first x) cs))
last_halves n1 w1 n2 w2 d x cs long code =
    let kept = filter (has_first x) cs in
    let P : Halves → Type 0 = λ c. AreHalves n1 w1 n2 w2 c × (has_first x c ≡ true) in
    let halves = All-filter (has_first x) (AreHalves n1 w1 n2 w2) cs code.halves in
    let passes = filter_passes (has_first x) cs in
    let each : All P kept = λ k z l. (halves k z l, passes k z l) in
    record {
      spread =
          record {
            lengths = All-map (λ y. length y ≡ n2) last_half kept (λ k z l. (halves k z l).last.long);
            distances =
                AllPairs-map (λ y z. d ≤ apart y z) last_half kept
                (AllPairs-within P (λ b c. d ≤ halves_apart b c) (λ b c. d ≤ apart (last_half b) (last_half c)) kept
                (λ b c p q far. let none = together b c p q in omega arith) each
                (AllPairs-filter (λ b c. d ≤ halves_apart b c) (has_first x) cs code.distances));
          };
      weights = All-map (λ y. ones y ≡ w2) last_half kept (λ k z l. (halves k z l).last.weight);
    }
  where
    together : (b c : Halves) → AreHalves n1 w1 n2 w2 b × (has_first x b ≡ true) → AreHalves n1 w1 n2 w2 c × (has_first x c ≡ true)
        → apart (first_half b) (first_half c) ≡ 0
    together b c p q =
        let here = leb-true (apart (first_half b) x) 0 p.1 in
        let there = leb-true (apart (first_half c) x) 0 q.1 in
        let turned = apart_symmetric (first_half c) x in
        let sides = apart_triangle (first_half b) x (first_half c) (p.0.first.long ∙ sym long) (long ∙ sym q.0.first.long) in
        omega arith

-- a first half of the weight has at most all last halves of theirs, and another one none
words_with_first : (n1 w1 n2 w2 d : ℕ) (cs : List Halves) → 1 ≤ d → AreFarHalves n1 w1 n2 w2 d cs → (x : List Bool) → length x ≡ n1
    → count_by (has_first x) cs ≤ choose n2 w2 * cond (ones x == w1) 1 0
words_with_first n1 w1 n2 w2 d cs h code x long =
    elim (cases_eq (ones x) w1) [
      | inl has ↦
          let most = weight_bound-all n2 d w2 h (map last_half (filter (has_first x) cs)) (last_halves n1 w1 n2 w2 d x cs long code) in
          let size = length-map (filter (has_first x) cs) last_half in
          let count = length-filter (has_first x) cs in
          let one : cond {A = ℕ} (ones x == w1) 1 0 ≡ 1 = cond-true (ones x == w1) 1 0 (eq-eqb (ones x) w1 has) in
          let times = ap (λ z. choose n2 w2 * z) one in
          omega arith
      | inr other ↦
          let none =
          count_by-none (has_first x) cs
          (λ k z l.
          let c = first_half (get_or cs k z) in
          let is = (code.halves k z l).first in
          lt-leb (apart c x) 0
          (elim (cases_eq (apart c x) 0) [
            | inl nowhere ↦ absurd (other (sym (ap ones (same_from_apart c x (is.long ∙ sym long) nowhere)) ∙ is.weight))
            | inr somewhere ↦ omega arith
          ])) in
          omega arith
    ]

-- there are no more words than words of both weights
pub all_bound : (n1 w1 n2 w2 d : ℕ) → 1 ≤ d → IsHalvesBound n1 w1 n2 w2 d (choose n1 w1 * choose n2 w2)
all_bound n1 w1 n2 w2 d h cs code =
    let near : Halves → List Bool → Bool = λ c x. has_first x c in
    let one : Halves → ℕ = λ c. 1 in
    let has : List Bool → ℕ = λ x. cond (ones x == w1) 1 0 in
    let most : List Bool → ℕ = λ x. choose n2 w2 * has x in
    let counted =
    double_count near one most cs (all_words n1)
    (λ k z l. let size = ball_size n1 0 (first_half (get_or cs k z)) ((code.halves k z l).first.long) in omega arith)
    (λ k z l. words_with_first n1 w1 n2 w2 d cs h code _ (lengths-all_words n1 k z l)) in
    let words = sum_by-constant 1 cs in
    let scaled = sum_by-scale (choose n2 w2) has (all_words n1) in
    let all = ap (λ z. choose n2 w2 * z) (count_of_weight n1 w1) in
    omega arith
