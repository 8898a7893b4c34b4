-- The words outside the balls about the words of a code, counted by the words of the code that they are next to.
use Rattle.std.proofs.Common.{◌≡◌, ℕ, suc, ◌+◌, ◌-◌, ◌*◌, ◌/◌, ◌^◌, ◌<◌, ◌≤◌, List, length, get_or, sym, ap, ◌∙◌, inl, inr, arith}
use Rattle.std.specs.Prelude.{Bool, true, false, cond, ◌==◌, ◌&&◌, nat_le, count_by, ◌⊎◌}
use Rattle.std.specs.List.{All, sum_by}
use Rattle.std.proofs.lemmas.Bool.{cases_eq, eq-eqb, cond-true}
use Rattle.std.proofs.lemmas.Bool.Decides.{nat_tests}
use Rattle.std.proofs.Math.Bool.{and-true, and-false}
use Rattle.std.proofs.Math.Nat.{mul-le-mul_left}
use Rattle.std.proofs.lemmas.List.Elements.{recursion_from_All}
use Rattle.std.proofs.lemmas.List.Sums.{sum_by-le-sum_by}
use Rattle.std.proofs.lemmas.Nat.{le-div}
use Rattle.ct_words.specs.Counting.Binomials.{choose, volume}
use Rattle.ct_words.specs.Counting.Words.{all_words, apart}
use Rattle.ct_words.proofs.Counting.Binomials.{choose_symmetric_at}
use Rattle.ct_words.proofs.Counting.Sums.{sum_by-constant, sum_by-scale, sum_by-add, sum_by-congruence, sum_by-congruence_within, sum_by-le_within}
use Rattle.ct_words.proofs.Counting.Pairs.{AllPairs-others}
use Rattle.ct_words.proofs.Counting.DoubleCounting.{double_count, count_by-swap, count_by-none}
use Rattle.ct_words.proofs.Counting.Words.{length-all_words, lengths-all_words}
use Rattle.ct_words.proofs.Counting.Distances.{apart_symmetric, apart_triangle}
use Rattle.ct_words.proofs.Counting.Between.{lies_between, count_between}
use Rattle.ct_words.proofs.Counting.Spread.{IsSpread, IsSpreadBound, IsWeightBound}
use Rattle.ct_words.proofs.Counting.Spheres.{ball_size, sphere_size, one_ball}
use Rattle.ct_words.proofs.Counting.CommonOnes.{spread-even_distance, disjoint_words}
use Rattle.ct_words.proofs.Counting.Translations.{around, length-around, spread-around}

-- how many words of the code lie within distance e of x
abbrev pub near : ℕ → List (List Bool) → List Bool → ℕ
near e cs x = count_by (λ c. nat_le (apart c x) e) cs

-- whether x is next to c, at distance e + 1, and within distance e of no word of the code
abbrev pub is_next_outside : ℕ → List (List Bool) → List Bool → List Bool → Bool
is_next_outside e cs c x = apart c x == suc e && near e cs x == 0

-- a word has at most n / (e + 1) words of a code of distance 2e + 1 next to it, since these, translated by it, have
-- disjoint ones
next_to : (n e : ℕ) (cs : List (List Bool)) → IsSpread n (suc (2 * e)) cs → (x : List Bool) → length x ≡ n → count_by (λ c. apart c x == suc e) cs ≤ n / suc e
next_to n e cs spread x long =
    let code = spread-around n (suc (2 * e)) (suc e) x cs long spread in
    let room = disjoint_words n (suc (2 * e)) (suc e) (around x (suc e) cs) (omega arith) code in
    let count = length-around x (suc e) cs in
    let turned = count_by-turned (suc e) x cs in
    let most = le-div (length (around x (suc e) cs)) n (suc e) (omega arith) room in
    omega arith
  where
    count_by-turned : (j : ℕ) (x : List Bool) (cs : List (List Bool)) → count_by (λ c. apart c x == j) cs ≡ count_by (λ c. apart x c == j) cs
    count_by-turned j x cs =
        sum_by-congruence (λ c. cond (apart c x == j) 1 0) (λ c. cond (apart x c == j) 1 0) cs (λ c. ap (λ t. cond {A = ℕ} (t == j) 1 0) (apart_symmetric c x))

-- and where it is within a ball, none that count
next_outside : (n e : ℕ) (cs : List (List Bool)) → IsSpread n (suc (2 * e)) cs → (x : List Bool) → length x ≡ n → count_by (λ c. is_next_outside e cs c x) cs ≤ n / suc e * cond (near e cs x == 0) 1 0
next_outside n e cs spread x long = by_cases (near e cs x == 0) (next_to n e cs spread x long)
  where
    by_cases : (b : Bool) → count_by (λ c. apart c x == suc e) cs ≤ n / suc e → count_by (λ c. apart c x == suc e && b) cs ≤ n / suc e * cond b 1 0
    by_cases true h =
        let same = sum_by-congruence (λ c. cond (apart c x == suc e && true) 1 0) (λ c. cond (apart c x == suc e) 1 0) cs (λ c. ap (λ t. cond {A = ℕ} t 1 0) (and-true (apart c x == suc e))) in
        omega arith
    by_cases false h =
        let none = count_by-none (λ c. apart c x == suc e && false) cs (λ k z l. and-false (apart _ x == suc e)) in
        omega arith

-- the words next to c that are within distance e of another word c' of the code: there are some only where the distance
-- of c and c' is 2e + 1
taken_by : (n e : ℕ) (c c' : List Bool) → length c ≡ n → length c' ≡ n → (c ≡ c') ⊎ (suc (2 * e) ≤ apart c c')
    → count_by (lies_between c c' (suc e) e) (all_words n) ≤ choose (suc (2 * e)) (suc e) * cond (apart c c' == suc (2 * e)) 1 0
taken_by n e c c' long long_too apart_or_same =
    elim (cases_eq (apart c c') (suc (2 * e))) [
      | inl here ↦
          let between = count_between c c' (suc e) e (long ∙ sym long_too) (omega arith) in
          let all = ap (λ m. count_by (lies_between c c' (suc e) e) (all_words m)) long in
          let ways = ap (λ t. choose t (suc e)) here in
          let one : cond {A = ℕ} (apart c c' == suc (2 * e)) 1 0 ≡ 1 = cond-true (apart c c' == suc (2 * e)) 1 0 (eq-eqb (apart c c') (suc (2 * e)) here) in
          let times = ap (λ z. choose (suc (2 * e)) (suc e) * z) one in
          omega arith
      | inr elsewhere ↦
          let none =
          count_by-none (lies_between c c' (suc e) e) (all_words n)
          (λ k z l. nowhere (get_or (all_words n) k z) (lengths-all_words n k z l) elsewhere apart_or_same) in
          omega arith
    ]
  where
    not_both : (s r : ℕ) → suc (suc (2 * e)) ≤ s + r → (s == suc e && nat_le r e) ≡ false
    not_both s r h = grind (arith, nat_tests)

    not_both_same : (s : ℕ) → (s == suc e && nat_le s e) ≡ false
    not_both_same s = grind (arith, nat_tests)

    further : (t : ℕ) → (t ≡ suc (2 * e) → ⊥) → suc (2 * e) ≤ t → suc (suc (2 * e)) ≤ t
    further t other far = omega arith

    nowhere : (w : List Bool) → length w ≡ n → (apart c c' ≡ suc (2 * e) → ⊥) → (c ≡ c') ⊎ (suc (2 * e) ≤ apart c c') → lies_between c c' (suc e) e w ≡ false
    nowhere w has elsewhere (inl same) = ap (λ y. apart c w == suc e && nat_le (apart y w) e) (sym same) ∙ not_both_same (apart c w)
    nowhere w has elsewhere (inr far) =
        let through = apart_triangle c w c' (long ∙ sym has) (has ∙ sym long_too) in
        let turned = apart_symmetric w c' in
        let more : suc (suc (2 * e)) ≤ apart c c' = further (apart c c') elsewhere far in
        not_both (apart c w) (apart c' w) (omega arith)

-- the words that other words of the code take from those next to c
taken_in_all : (n e u : ℕ) → IsWeightBound n (suc (suc (2 * e))) (suc (2 * e)) u → (cs : List (List Bool)) → IsSpread n (suc (2 * e)) cs → (c : List Bool) → length c ≡ n
    → All (λ y. (c ≡ y) ⊎ (suc (2 * e) ≤ apart c y)) cs
    → sum_by (λ x. count_by (λ y. lies_between c y (suc e) e x) cs) (all_words n) ≤ choose (suc (2 * e)) (suc e) * u
taken_in_all n e u bound cs spread c long others =
    let ways = choose (suc (2 * e)) (suc e) in
    let far : List Bool → ℕ = λ y. cond (apart c y == suc (2 * e)) 1 0 in
    let taken : List Bool → ℕ = λ y. count_by (lies_between c y (suc e) e) (all_words n) in
    let most : List Bool → ℕ = λ y. ways * far y in
    let turned = count_by-swap (λ y x. lies_between c y (suc e) e x) cs (all_words n) in
    let each =
    sum_by-le_within taken most cs
    (recursion_from_All (λ y. taken y ≤ most y) cs (λ k z l. taken_by n e c (get_or cs k z) long (spread.lengths k z l) (others k z l))) in
    let scaled = sum_by-scale ways far cs in
    let count = length-around c (suc (2 * e)) cs in
    let code = spread-even_distance n (suc (2 * e)) (suc (2 * e)) (around c (suc (2 * e)) cs) (omega arith) (spread-around n (suc (2 * e)) (suc (2 * e)) c cs long spread) in
    let few = bound (around c (suc (2 * e)) cs) code in
    let few_of_them : count_by (λ y. apart c y == suc (2 * e)) cs ≤ u = omega arith in
    let times : ways * count_by (λ y. apart c y == suc (2 * e)) cs ≤ ways * u = mul-le-mul_left ways few_of_them in
    omega arith

-- at a word next to c: it is outside all balls, or some word of the code takes it
outside_or_taken : (e : ℕ) (cs : List (List Bool)) (c x : List Bool) → cond (apart c x == suc e) 1 0 ≤ cond (is_next_outside e cs c x) 1 0 + count_by (λ y. lies_between c y (suc e) e x) cs
outside_or_taken e cs c x = by_cases (apart c x == suc e)
  where
    some_or_none : (m : ℕ) → 1 ≤ cond {A = ℕ} (m == 0) 1 0 + m
    some_or_none m = grind (arith, nat_tests)

    by_cases : (b : Bool) → cond {A = ℕ} b 1 0 ≤ cond {A = ℕ} (b && near e cs x == 0) 1 0 + count_by (λ y. b && nat_le (apart y x) e) cs
    by_cases false = omega arith
    by_cases true = some_or_none (near e cs x)

-- so at least so many words next to c lie outside all balls
outside_least : (n e u : ℕ) → IsWeightBound n (suc (suc (2 * e))) (suc (2 * e)) u → (cs : List (List Bool)) → IsSpread n (suc (2 * e)) cs → (i : ℕ) (z : List Bool) → i < length cs
    → choose n (suc e) ≤ count_by (is_next_outside e cs (get_or cs i z)) (all_words n) + choose (suc (2 * e)) (suc e) * u
outside_least n e u bound cs spread i z within =
    let c = get_or cs i z in
    let long = spread.lengths i z within in
    let others = AllPairs-others (λ x y. suc (2 * e) ≤ apart x y) cs (λ x y far. let turned = apart_symmetric x y in omega arith) spread.distances i z within in
    let next : List Bool → ℕ = λ x. cond (apart c x == suc e) 1 0 in
    let outside : List Bool → ℕ = λ x. cond (is_next_outside e cs c x) 1 0 in
    let taken : List Bool → ℕ = λ x. count_by (λ y. lies_between c y (suc e) e x) cs in
    let both : List Bool → ℕ = λ x. outside x + taken x in
    let sphere = sphere_size n (suc e) c long in
    let each = sum_by-le-sum_by next both (all_words n) (λ x. outside_or_taken e cs c x) in
    let split = sum_by-add outside taken (all_words n) in
    let most = taken_in_all n e u bound cs spread c long others in
    omega arith

-- the balls, and the words outside them, are all words
balls_and_outside : (n e : ℕ) (cs : List (List Bool)) → IsSpread n (suc (2 * e)) cs → length cs * volume n e + count_by (λ x. near e cs x == 0) (all_words n) ≤ 2 ^ n
balls_and_outside n e cs spread =
    let inside : List Bool → ℕ = λ x. near e cs x in
    let outside : List Bool → ℕ = λ x. cond (near e cs x == 0) 1 0 in
    let both : List Bool → ℕ = λ x. inside x + outside x in
    let one : List Bool → ℕ = λ x. 1 in
    let ball : List Bool → ℕ = λ c. count_by (λ x. nat_le (apart c x) e) (all_words n) in
    let size : List Bool → ℕ = λ c. volume n e in
    let each =
    sum_by-le_within both one (all_words n)
    (recursion_from_All (λ x. both x ≤ 1) (all_words n)
    (λ k z l. in_or_out (near e cs (get_or (all_words n) k z)) (one_ball n (suc (2 * e)) e cs (omega arith) spread (get_or (all_words n) k z) (lengths-all_words n k z l)))) in
    let split = sum_by-add inside outside (all_words n) in
    let turned = count_by-swap (λ c x. nat_le (apart c x) e) cs (all_words n) in
    let sizes = sum_by-congruence_within ball size cs (recursion_from_All (λ c. ball c ≡ size c) cs (λ k z l. ball_size n e (get_or cs k z) (spread.lengths k z l))) in
    let count = sum_by-constant (volume n e) cs in
    let whole = sum_by-constant 1 (all_words n) in
    let all = length-all_words n in
    omega arith
  where
    in_or_out : (m : ℕ) → m ≤ 1 → m + cond {A = ℕ} (m == 0) 1 0 ≤ 1
    in_or_out m h = grind (arith, nat_tests)

-- the whole count: each word of the code has at least r words next to it outside the balls, and each of these has at
-- most n / (e + 1) words of the code next to it
whole_count : (n e r : ℕ) (cs : List (List Bool)) → IsSpread n (suc (2 * e)) cs → ((i : ℕ) (z : List Bool) → i < length cs → r ≤ count_by (is_next_outside e cs (get_or cs i z)) (all_words n))
    → length cs * (n / suc e * volume n e + r) ≤ 2 ^ n * (n / suc e)
whole_count n e r cs spread least =
    let most = n / suc e in
    let outside : List Bool → ℕ = λ x. cond (near e cs x == 0) 1 0 in
    let each : List Bool → ℕ = λ c. r in
    let room : List Bool → ℕ = λ x. most * outside x in
    let counted =
    double_count (is_next_outside e cs) each room cs (all_words n) least
    (λ k z l. next_outside n e cs spread (get_or (all_words n) k z) (lengths-all_words n k z l)) in
    let words = sum_by-constant r cs in
    let scaled = sum_by-scale most outside (all_words n) in
    let balls = balls_and_outside n e cs spread in
    meet (length cs) most (volume n e) r (count_by (λ x. near e cs x == 0) (all_words n)) (2 ^ n) balls (omega arith)
  where
    meet : (m f v r o p : ℕ) → m * v + o ≤ p → m * r ≤ f * o → m * (f * v + r) ≤ p * f
    meet m f v r o p h k =
        let times = mul-le-mul_left f h in
        omega arith

-- the bound for a code of distance 2e + 1, where the words of weight 2e + 1 at distance 2e + 2 are at most u
pub spread_bound-johnson : (n e u : ℕ) → choose (suc (2 * e)) e * u < choose n (suc e) → IsWeightBound n (suc (suc (2 * e))) (suc (2 * e)) u
    → IsSpreadBound n (suc (2 * e)) (2 ^ n * (n / suc e) / (n / suc e * volume n e + (choose n (suc e) - choose (suc (2 * e)) e * u)))
spread_bound-johnson n e u h bound cs spread =
    let r = choose n (suc e) - choose (suc (2 * e)) e * u in
    let turned : choose (suc (2 * e)) (suc e) ≡ choose (suc (2 * e)) e = choose_symmetric_at (suc (2 * e)) e (suc e) (omega arith) in
    let times = ap (λ z. z * u) turned in
    let whole =
    whole_count n e r cs spread (λ i z within. let least = outside_least n e u bound cs spread i z within in omega arith) in
    le-div (length cs) (2 ^ n * (n / suc e)) (n / suc e * volume n e + r) (omega arith) whole
