-- Bounds of codes of constant weight that rest on the weight alone.
use Rattle.std.proofs.Common.{◌≡◌, ℕ, ◌-◌, ◌*◌, ◌/◌, ◌<◌, ◌≤◌, min, List, [], ◌∷◌, length, get_or, ap, sym, ◌∙◌, inl, inr, arith}
use Rattle.std.specs.Prelude.{Bool, cond, ◌==◌, nat_le, count_by, Some}
use Rattle.std.proofs.lemmas.Bool.{cases_eq, cases_lt, eq-eqb, ne_eqb, cond-true, cond-false, lt-leb}
use Rattle.std.proofs.lemmas.Nat.{le-div}
use Rattle.ct_words.specs.Counting.Binomials.{choose}
use Rattle.ct_words.specs.Counting.Words.{all_words, apart, ones}
use Rattle.ct_words.proofs.Counting.Sums.{sum_by-constant}
use Rattle.ct_words.proofs.Counting.DoubleCounting.{double_count, count_by-none}
use Rattle.ct_words.proofs.Counting.Words.{lengths-all_words, count_of_weight}
use Rattle.ct_words.proofs.Counting.Distances.{same_from_apart}
use Rattle.ct_words.proofs.Counting.Places.{ones-zeros}
use Rattle.ct_words.proofs.Counting.Spread.{IsSpreadOfWeight, IsWeightBound}
use Rattle.ct_words.proofs.Counting.Spheres.{ball_size, one_ball}
use Rattle.ct_words.proofs.Counting.Complements.{complement_bound}
use Rattle.ct_words.proofs.Counting.CommonOnes.{ones-common, disjoint_words}
use Rattle.ct_words.specs.Code.{IsCode}

-- two words that differ nowhere have one weight
same_weight : (x y : List Bool) → length x ≡ length y → apart x y ≡ 0 → ones x ≡ ones y
same_weight x y e h = ap ones (same_from_apart x y e h)

-- at a word of the weight stands at most one word of the code, and none elsewhere
one_at : (n d w : ℕ) (cs : List (List Bool)) → 1 ≤ d → IsSpreadOfWeight n d w cs → (x : List Bool) → length x ≡ n → count_by (λ c. nat_le (apart c x) 0) cs ≤ cond (ones x == w) 1 0
one_at n d w cs h code x long =
    elim (cases_eq (ones x) w) [
      | inl has ↦
          let most = one_ball n d 0 cs (omega arith) code.spread x long in
          let one : cond {A = ℕ} (ones x == w) 1 0 ≡ 1 = cond-true (ones x == w) 1 0 (eq-eqb (ones x) w has) in
          omega arith
      | inr other ↦
          let none =
          count_by-none (λ c. nat_le (apart c x) 0) cs
          (λ k z l.
          let c = get_or cs k z in
          let long_too = code.spread.lengths k z l in
          let weight = code.weights k z l in
          lt-leb (apart c x) 0
          (elim (cases_eq (apart c x) 0) [
            | inl nowhere ↦ absurd (other (sym (same_weight c x (long_too ∙ sym long) nowhere) ∙ weight))
            | inr somewhere ↦ omega arith
          ])) in
          let nothing : cond {A = ℕ} (ones x == w) 1 0 ≡ 0 = cond-false (ones x == w) 1 0 (ne_eqb (ones x) w other) in
          omega arith
    ]

-- there are no more words than words of the weight
pub weight_bound-all : (n d w : ℕ) → 1 ≤ d → IsWeightBound n d w (choose n w)
weight_bound-all n d w h cs code =
    let near : List Bool → List Bool → Bool = λ c x. nat_le (apart c x) 0 in
    let one : List Bool → ℕ = λ c. 1 in
    let has : List Bool → ℕ = λ x. cond (ones x == w) 1 0 in
    let counted =
    double_count near one has cs (all_words n)
    (λ k z l. let size = ball_size n 0 (get_or cs k z) (code.spread.lengths k z l) in omega arith)
    (λ k z l. one_at n d w cs h code _ (lengths-all_words n k z l)) in
    let words = sum_by-constant 1 cs in
    let all = count_of_weight n w in
    omega arith

-- two words of weight w differ at no more than 2w places
weight_bound-far : (n d w : ℕ) → 2 * w < d → IsWeightBound n d w 1
weight_bound-far n d w h [] code = omega arith
weight_bound-far n d w h (x ∷ []) code = omega arith
weight_bound-far n d w h (x ∷ y ∷ cs) code =
    let long = code.spread.lengths 0 [] (omega arith) in
    let long_too = code.spread.lengths 1 [] (omega arith) in
    let weight = code.weights 0 [] (omega arith) in
    let weight_too = code.weights 1 [] (omega arith) in
    let far = code.spread.distances 0 1 [] (omega arith) (omega arith) in
    let sum = ones-common x y (long ∙ sym long_too) in
    absurd (omega arith)

-- no word has a weight above the length
weight_bound-none : (n d w : ℕ) → n < w → IsWeightBound n d w 1
weight_bound-none n d w h [] code = omega arith
weight_bound-none n d w h (x ∷ cs) code =
    let long = code.spread.lengths 0 [] (omega arith) in
    let weight = code.weights 0 [] (omega arith) in
    let most = ones-zeros x in
    absurd (omega arith)

-- nor at more than 2(n - w)
pub weight_bound-apart : (n d w : ℕ) → 2 * min w (n - w) < d → IsWeightBound n d w 1
weight_bound-apart n d w h =
    elim (cases_lt n w) [
      | inl past ↦ weight_bound-none n d w past
      | inr within ↦
          elim (cases_lt (2 * w) d) [
            | inl few_ones ↦ weight_bound-far n d w few_ones
            | inr many_ones ↦ complement_bound n d w (n - w) 1 (omega arith) (weight_bound-far n d (n - w) (omega arith))
          ]
    ]

-- words of weight w at distance 2w have no one in common
pub weight_bound-disjoint : (n w : ℕ) → 1 ≤ w → IsWeightBound n (2 * w) w (n / w)
weight_bound-disjoint n w h cs code = le-div (length cs) n w (omega arith) (disjoint_words n (2 * w) w cs (omega arith) code)

-- a code of distance d is one of a distance below
pub code-nearer : (n d e w : ℕ) (words : List ℕ) → e ≤ d → IsCode n d (Some w) words → IsCode n e (Some w) words
code-nearer n d e w words h code =
    record {
      lengths = code.lengths;
      different = code.different;
      apart = λ i j z l m. let far = code.apart i j z l m in omega arith;
      weights = code.weights;
    }
