-- The words that lie between two words: at distance i from the one and j from the other, where i and j add up to their
-- distance.
use Rattle.std.proofs.Common.{◌≡◌, ℕ, zero, suc, ◌+◌, ◌≤◌, List, [], ◌∷◌, length, get_or, refl, ap, arith, zero-add}
use Rattle.std.specs.Prelude.{Bool, true, false, cond, ◌==◌, ◌&&◌, nat_le, count_by}
use Rattle.std.proofs.lemmas.Bool.Decides.{nat_tests}
use Rattle.ct_words.specs.Counting.Binomials.{choose}
use Rattle.ct_words.specs.Counting.Words.{all_words, apart}
use Rattle.ct_words.proofs.Counting.Sums.{sum_by-congruence}
use Rattle.ct_words.proofs.Counting.Binomials.{choose_past}
use Rattle.ct_words.proofs.Counting.DoubleCounting.{count_by-none}
use Rattle.ct_words.proofs.Counting.Distances.{apart_triangle, apart_symmetric}
use Rattle.ct_words.proofs.Counting.Words.{count_by-all_words, lengths-all_words}

-- whether a word is at distance i from the first, and at most j from the second
abbrev pub lies_between : List Bool → List Bool → ℕ → ℕ → List Bool → Bool
lies_between c e i j x = apart c x == i && nat_le (apart e x) j

-- one digit more, which differs from the one word alone: at i and j it is none of them where i or j is 0
one_more_left : (s r i j : ℕ) → (1 + s == suc i && nat_le (0 + r) j) ≡ (s == i && nat_le r j)
one_more_left s r i j = grind (arith, nat_tests)

one_more_left_zero : (s r j : ℕ) → (1 + s == 0 && nat_le (0 + r) j) ≡ false
one_more_left_zero s r j = grind (arith, nat_tests)

one_more_right : (s r i j : ℕ) → (0 + s == i && nat_le (1 + r) (suc j)) ≡ (s == i && nat_le r j)
one_more_right s r i j = grind (arith, nat_tests)

one_more_right_zero : (s r i : ℕ) → (0 + s == i && nat_le (1 + r) 0) ≡ false
one_more_right_zero s r i = grind (arith, nat_tests)

same_digit : (s r i j : ℕ) → (0 + s == i && nat_le (0 + r) j) ≡ (s == i && nat_le r j)
same_digit s r i j = grind (arith, nat_tests)

-- a digit more that differs from both leads too far
both_differ : (s r i j : ℕ) → i + j ≤ s + r → (1 + s == i && nat_le (1 + r) j) ≡ false
both_differ s r i j h = grind (arith, nat_tests)

-- equal tests count the same
count_by-same : {X : Type 0} (p q : X → Bool) (xs : List X) → ((x : X) → p x ≡ q x) → count_by p xs ≡ count_by q xs
count_by-same p q xs same = sum_by-congruence (λ x. cond (p x) 1 0) (λ x. cond (q x) 1 0) xs (λ x. ap (λ t. cond {A = ℕ} t 1 0) (same x))

-- a test that nothing passes counts nothing
count_by-never : {X : Type 0} (p : X → Bool) (xs : List X) → ((x : X) → p x ≡ false) → count_by p xs ≡ 0
count_by-never p xs never = count_by-none p xs (λ k z l. never _)

-- the words that begin with the digit of both
between_same : (c e : List Bool) (i j : ℕ) → count_by (λ w. 0 + apart c w == i && nat_le (0 + apart e w) j) (all_words (length c)) ≡ count_by (lies_between c e i j) (all_words (length c))
between_same c e i j =
    count_by-same (λ w. 0 + apart c w == i && nat_le (0 + apart e w) j) (lies_between c e i j) (all_words (length c)) (λ w. same_digit (apart c w) (apart e w) i j)

-- and those that begin with the other digit
between_neither : (c e : List Bool) (i j : ℕ) → length c ≡ length e → i + j ≡ apart c e → count_by (λ w. 1 + apart c w == i && nat_le (1 + apart e w) j) (all_words (length c)) ≡ 0
between_neither c e i j long h =
    count_by-none (λ w. 1 + apart c w == i && nat_le (1 + apart e w) j) (all_words (length c))
    (λ k z l.
    let w = get_or (all_words (length c)) k z in
    let has = lengths-all_words (length c) k z l in
    let through = apart_triangle c w e (omega arith) (omega arith) in
    let turned = apart_symmetric w e in
    both_differ (apart c w) (apart e w) i j (omega arith))

-- where the digits differ, the words that begin with the digit of the second
between_left : (c e : List Bool) (i j : ℕ) → count_by (λ w. 1 + apart c w == suc i && nat_le (0 + apart e w) j) (all_words (length c)) ≡ count_by (lies_between c e i j) (all_words (length c))
between_left c e i j =
    count_by-same (λ w. 1 + apart c w == suc i && nat_le (0 + apart e w) j) (lies_between c e i j) (all_words (length c)) (λ w. one_more_left (apart c w) (apart e w) i j)

between_left_zero : (c e : List Bool) (j : ℕ) → count_by (λ w. 1 + apart c w == 0 && nat_le (0 + apart e w) j) (all_words (length c)) ≡ 0
between_left_zero c e j =
    count_by-never (λ w. 1 + apart c w == 0 && nat_le (0 + apart e w) j) (all_words (length c)) (λ w. one_more_left_zero (apart c w) (apart e w) j)

-- and those that begin with the digit of the first
between_right : (c e : List Bool) (i j : ℕ) → count_by (λ w. 0 + apart c w == i && nat_le (1 + apart e w) (suc j)) (all_words (length c)) ≡ count_by (lies_between c e i j) (all_words (length c))
between_right c e i j =
    count_by-same (λ w. 0 + apart c w == i && nat_le (1 + apart e w) (suc j)) (lies_between c e i j) (all_words (length c)) (λ w. one_more_right (apart c w) (apart e w) i j)

between_right_zero : (c e : List Bool) (i : ℕ) → count_by (λ w. 0 + apart c w == i && nat_le (1 + apart e w) 0) (all_words (length c)) ≡ 0
between_right_zero c e i =
    count_by-never (λ w. 0 + apart c w == i && nat_le (1 + apart e w) 0) (all_words (length c)) (λ w. one_more_right_zero (apart c w) (apart e w) i)

-- one more place to take from
pascal : (t i : ℕ) → choose (1 + t) (suc i) ≡ choose t i + choose t (suc i)
pascal t i = ap (λ m. choose m (suc i)) (one-add t)
  where
    one-add : (t : ℕ) → 1 + t ≡ suc t
    one-add t = omega arith

-- there are as many as ways to take i of the places where the two words differ
pub count_between : (c e : List Bool) (i j : ℕ) → length c ≡ length e → i + j ≡ apart c e → count_by (lies_between c e i j) (all_words (length c)) ≡ choose (apart c e) i
count_between [] [] zero zero long h = refl
count_between [] [] zero (suc j) long h = absurd (omega arith)
count_between [] [] (suc i) j long h = absurd (omega arith)
count_between [] (b ∷ e) i j long h = absurd (omega arith)
count_between (a ∷ c) [] i j long h = absurd (omega arith)
count_between (false ∷ c) (false ∷ e) i j long h =
    let split = count_by-all_words (lies_between (false ∷ c) (false ∷ e) i j) (length c) in
    let ih = count_between c e i j (omega arith) (omega arith) in
    let kept = between_same c e i j in
    let other = between_neither c e i j (omega arith) (omega arith) in
    let same = ap (λ t. choose t i) (zero-add (apart c e)) in
    omega arith
count_between (true ∷ c) (true ∷ e) i j long h =
    let split = count_by-all_words (lies_between (true ∷ c) (true ∷ e) i j) (length c) in
    let ih = count_between c e i j (omega arith) (omega arith) in
    let kept = between_same c e i j in
    let other = between_neither c e i j (omega arith) (omega arith) in
    let same = ap (λ t. choose t i) (zero-add (apart c e)) in
    omega arith
count_between (false ∷ c) (true ∷ e) zero zero long h = absurd (omega arith)
count_between (false ∷ c) (true ∷ e) zero (suc j) long h =
    let split = count_by-all_words (lies_between (false ∷ c) (true ∷ e) zero (suc j)) (length c) in
    let ih = count_between c e zero j (omega arith) (omega arith) in
    let right = between_right c e zero j in
    let left = between_left_zero c e (suc j) in
    omega arith
count_between (false ∷ c) (true ∷ e) (suc i) zero long h =
    let split = count_by-all_words (lies_between (false ∷ c) (true ∷ e) (suc i) zero) (length c) in
    let ih = count_between c e i zero (omega arith) (omega arith) in
    let right = between_right_zero c e (suc i) in
    let left = between_left c e i zero in
    let more = pascal (apart c e) i in
    let past = choose_past (apart c e) (suc i) (omega arith) in
    omega arith
count_between (false ∷ c) (true ∷ e) (suc i) (suc j) long h =
    let split = count_by-all_words (lies_between (false ∷ c) (true ∷ e) (suc i) (suc j)) (length c) in
    let with_left = count_between c e i (suc j) (omega arith) (omega arith) in
    let with_right = count_between c e (suc i) j (omega arith) (omega arith) in
    let right = between_right c e (suc i) j in
    let left = between_left c e i (suc j) in
    let more = pascal (apart c e) i in
    omega arith
count_between (true ∷ c) (false ∷ e) zero zero long h = absurd (omega arith)
count_between (true ∷ c) (false ∷ e) zero (suc j) long h =
    let split = count_by-all_words (lies_between (true ∷ c) (false ∷ e) zero (suc j)) (length c) in
    let ih = count_between c e zero j (omega arith) (omega arith) in
    let right = between_right c e zero j in
    let left = between_left_zero c e (suc j) in
    omega arith
count_between (true ∷ c) (false ∷ e) (suc i) zero long h =
    let split = count_by-all_words (lies_between (true ∷ c) (false ∷ e) (suc i) zero) (length c) in
    let ih = count_between c e i zero (omega arith) (omega arith) in
    let right = between_right_zero c e (suc i) in
    let left = between_left c e i zero in
    let more = pascal (apart c e) i in
    let past = choose_past (apart c e) (suc i) (omega arith) in
    omega arith
count_between (true ∷ c) (false ∷ e) (suc i) (suc j) long h =
    let split = count_by-all_words (lies_between (true ∷ c) (false ∷ e) (suc i) (suc j)) (length c) in
    let with_left = count_between c e i (suc j) (omega arith) (omega arith) in
    let with_right = count_between c e (suc i) j (omega arith) (omega arith) in
    let right = between_right c e (suc i) j in
    let left = between_left c e i (suc j) in
    let more = pascal (apart c e) i in
    omega arith
