-- Characters of words as lists of digits: their sums over the words of a weight, and over all pairs of a list of words.
use Rattle.std.proofs.Common.{◌≡◌, ℕ, zero, suc, ◌+◌, ◌-◌, List, [], ◌∷◌, map, length, refl, sym, ap, ap₂, ◌∙◌, arith}
use Rattle.std.specs.Prelude.{filter, Bool, true, false, cond, ◌==◌, ◌&&◌, ℤ, pos, neg_ℤ, ◌+ℤ◌, ◌*ℤ◌}
use Rattle.std.specs.List.{All}
use Rattle.std.proofs.lemmas.Int.{ints}
use Rattle.std.proofs.lemmas.Bool.Decides.{nat_tests}
use Rattle.ct_words.specs.Counting.Sums.{total}
use Rattle.ct_words.specs.Counting.Words.{all_words, ones, apart, differ}
use Rattle.ct_words.specs.Counting.Alternating.{sign}
use Rattle.ct_words.proofs.Counting.Totals.{total-append, total-map, total-congruence, total-zero}
use Rattle.ct_words.specs.Counting.PairTotals.{pair_total, square}
use Rattle.ct_words.proofs.Counting.PartTotals.{total-filter, total-neg}
use Rattle.ct_words.proofs.Counting.PairTotals.{total-squares, pair_total-congruence_within}
use Rattle.ct_words.proofs.Counting.Products.{int_neg_mul, int_mul_neg}
use Rattle.ct_words.proofs.Counting.SignedBinomials.{signed_binomial, signed_binomial-first, signed_binomial-none, signed_binomial-plus, signed_binomial-minus}

-- at how many places two words both hold a one
abbrev pub common_digits : List Bool → List Bool → ℕ
common_digits [] x = 0
common_digits (a ∷ u) [] = 0
common_digits (a ∷ u) (b ∷ x) = cond (a && b) 1 0 + common_digits u x

-- the character of the word u at the word x
abbrev pub digit_character : List Bool → List Bool → ℤ
digit_character u x = sign (common_digits u x)

-- the words of n digits and weight k
abbrev pub digit_words : ℕ → ℕ → List (List Bool)
digit_words n k = filter (λ u. ones u == k) (all_words n)

-- how many digits are 0
abbrev pub zeros : List Bool → ℕ
zeros [] = 0
zeros (a ∷ x) = cond a 0 1 + zeros x

-- each digit is 1 or 0
pub ones-zeros : (x : List Bool) → ones x + zeros x ≡ length x
ones-zeros [] = refl
ones-zeros (false ∷ x) = let ih = ones-zeros x in omega arith
ones-zeros (true ∷ x) = let ih = ones-zeros x in omega arith

-- the total of f over the words of n digits and weight k
abbrev at_weight : (List Bool → ℤ) → ℕ → List Bool → ℤ
at_weight f k u = cond (ones u == k) (f u) (pos 0)

-- a total over the words of n + 1 digits, by their first digit
total-all_words : (f : List Bool → ℤ) (n : ℕ) → total f (all_words (suc n)) ≡ total (λ u. f (false ∷ u)) (all_words n) +ℤ total (λ u. f (true ∷ u)) (all_words n)
total-all_words f n =
    total-append f (map (λ w. false ∷ w) (all_words n)) (map (λ w. true ∷ w) (all_words n))
    ∙ ap₂ (λ a b. a +ℤ b) (total-map f (λ w. false ∷ w) (all_words n)) (total-map f (λ w. true ∷ w) (all_words n))

-- a digit 0 more keeps the weight, and a digit 1 adds one to it
test_zero : (a k : ℕ) → (0 + a == k) ≡ (a == k)
test_zero a k = grind (arith, nat_tests)

test_none : (a : ℕ) → (1 + a == 0) ≡ false
test_none a = grind (arith, nat_tests)

test_one : (a k : ℕ) → (1 + a == suc k) ≡ (a == k)
test_one a k = grind (arith, nat_tests)

-- the words of n + 1 digits and weight 0
total-weight_zero : (f : List Bool → ℤ) (n : ℕ) → total f (digit_words (suc n) 0) ≡ total (λ u. f (false ∷ u)) (digit_words n 0)
total-weight_zero f n =
    let low : List Bool → ℤ = λ u. f (false ∷ u) in
    let high : List Bool → ℤ = λ u. f (true ∷ u) in
    let split = total-filter f (λ u. ones u == 0) (all_words (suc n)) ∙ total-all_words (at_weight f 0) n in
    let zeros_are = total-congruence (λ u. at_weight f 0 (false ∷ u)) (at_weight low 0) (all_words n) (λ u. ap (λ b. cond b (low u) (pos 0)) (test_zero (ones u) 0)) in
    let ones_are = total-congruence (λ u. at_weight f 0 (true ∷ u)) (λ u. pos 0) (all_words n) (λ u. ap (λ b. cond b (high u) (pos 0)) (test_none (ones u))) ∙ total-zero (all_words n) in
    let back = total-filter low (λ u. ones u == 0) (all_words n) in
    omega (arith, ints)

-- the words of n + 1 digits and weight k + 1, by their first digit
total-weight_suc : (f : List Bool → ℤ) (n k : ℕ) → total f (digit_words (suc n) (suc k)) ≡ total (λ u. f (false ∷ u)) (digit_words n (suc k)) +ℤ total (λ u. f (true ∷ u)) (digit_words n k)
total-weight_suc f n k =
    let low : List Bool → ℤ = λ u. f (false ∷ u) in
    let high : List Bool → ℤ = λ u. f (true ∷ u) in
    let split = total-filter f (λ u. ones u == suc k) (all_words (suc n)) ∙ total-all_words (at_weight f (suc k)) n in
    let zeros_are = total-congruence (λ u. at_weight f (suc k) (false ∷ u)) (at_weight low (suc k)) (all_words n) (λ u. ap (λ b. cond b (low u) (pos 0)) (test_zero (ones u) (suc k))) in
    let ones_are = total-congruence (λ u. at_weight f (suc k) (true ∷ u)) (at_weight high k) (all_words n) (λ u. ap (λ b. cond b (high u) (pos 0)) (test_one (ones u) k)) in
    let back_low = total-filter low (λ u. ones u == suc k) (all_words n) in
    let back_high = total-filter high (λ u. ones u == k) (all_words n) in
    omega (arith, ints)

-- a place where not both hold a one leaves the sign
sign_same : (m : ℕ) → sign (0 + m) ≡ sign m
sign_same m = let e : 0 + m ≡ m = omega arith in ap sign e

-- and one where both do turns it
sign_turned : (m : ℕ) → sign (1 + m) ≡ neg_ℤ (sign m)
sign_turned m = let e : 1 + m ≡ suc m = omega arith in ap sign e

-- the characters at a word, of all words of a weight, add up to a coefficient of (1 - z)^i (1 + z)^m, where the word has i ones and m zeros
pub total-digit_character : (x : List Bool) (k : ℕ) → total (λ u. digit_character u x) (digit_words (length x) k) ≡ signed_binomial (ones x) (zeros x) k
total-digit_character [] zero = sym (signed_binomial-first 0 0)
total-digit_character [] (suc k) =
    let none : (0 == suc k) ≡ false = grind (arith, nat_tests) in
    ap (λ b. total (λ u. digit_character u []) (cond {A = List (List Bool)} b ([] ∷ []) [])) none ∙ sym (signed_binomial-none k)
total-digit_character (false ∷ x) zero =
    total-weight_zero (λ u. digit_character u (false ∷ x)) (length x)
    ∙ total-congruence (λ u. digit_character (false ∷ u) (false ∷ x)) (λ u. digit_character u x) (digit_words (length x) 0) (λ u. sign_same (common_digits u x))
    ∙ total-digit_character x 0 ∙ signed_binomial-first (ones x) (zeros x) ∙ sym (signed_binomial-first (0 + ones x) (1 + zeros x))
total-digit_character (true ∷ x) zero =
    total-weight_zero (λ u. digit_character u (true ∷ x)) (length x)
    ∙ total-congruence (λ u. digit_character (false ∷ u) (true ∷ x)) (λ u. digit_character u x) (digit_words (length x) 0) (λ u. sign_same (common_digits u x))
    ∙ total-digit_character x 0 ∙ signed_binomial-first (ones x) (zeros x) ∙ sym (signed_binomial-first (1 + ones x) (0 + zeros x))
total-digit_character (false ∷ x) (suc k) =
    let n = length x in
    let split = total-weight_suc (λ u. digit_character u (false ∷ x)) n k in
    let low = total-congruence (λ u. digit_character (false ∷ u) (false ∷ x)) (λ u. digit_character u x) (digit_words n (suc k)) (λ u. sign_same (common_digits u x)) in
    let high = total-congruence (λ u. digit_character (true ∷ u) (false ∷ x)) (λ u. digit_character u x) (digit_words n k) (λ u. sign_same (common_digits u x)) in
    let a = total-digit_character x (suc k) in
    let b = total-digit_character x k in
    let i_is : 0 + ones x ≡ ones x = omega arith in
    let m_is : 1 + zeros x ≡ suc (zeros x) = omega arith in
    let whole = ap₂ (λ i m. signed_binomial i m (suc k)) i_is m_is in
    let step = signed_binomial-plus (ones x) (zeros x) k in
    omega (arith, ints)
total-digit_character (true ∷ x) (suc k) =
    let n = length x in
    let split = total-weight_suc (λ u. digit_character u (true ∷ x)) n k in
    let low = total-congruence (λ u. digit_character (false ∷ u) (true ∷ x)) (λ u. digit_character u x) (digit_words n (suc k)) (λ u. sign_same (common_digits u x)) in
    let high = total-congruence (λ u. digit_character (true ∷ u) (true ∷ x)) (λ u. neg_ℤ (digit_character u x)) (digit_words n k) (λ u. sign_turned (common_digits u x)) ∙ total-neg (λ u. digit_character u x) (digit_words n k) in
    let a = total-digit_character x (suc k) in
    let b = total-digit_character x k in
    let i_is : 1 + ones x ≡ suc (ones x) = omega arith in
    let m_is : 0 + zeros x ≡ zeros x = omega arith in
    let whole = ap₂ (λ i m. signed_binomial i m (suc k)) i_is m_is in
    let step = signed_binomial-minus (ones x) (zeros x) k in
    omega (arith, ints)

-- the sum of two words without carry
abbrev pub plus : List Bool → List Bool → List Bool
plus [] y = []
plus (a ∷ x) [] = []
plus (a ∷ x) (b ∷ y) = differ a b ∷ plus x y

-- its ones are the places where the words differ
pub ones-plus : (x y : List Bool) → ones (plus x y) ≡ apart x y
ones-plus [] y = refl
ones-plus (a ∷ x) [] = refl
ones-plus (a ∷ x) (b ∷ y) = ap (λ m. cond (differ a b) 1 0 + m) (ones-plus x y)

-- it is as long as they are
pub length-plus : (x y : List Bool) → length x ≡ length y → length (plus x y) ≡ length x
length-plus [] y h = refl
length-plus (a ∷ x) [] h = absurd (omega arith)
length-plus (a ∷ x) (b ∷ y) h = ap suc (length-plus x y (omega arith))

-- the sign at a place, turned where both hold a one
turned : Bool → ℤ → ℤ
turned true z = neg_ℤ z
turned false z = z

-- the sign with one place more
sign_turned_by : (t : Bool) (m : ℕ) → sign (cond t 1 0 + m) ≡ turned t (sign m)
unfolding turned
sign_turned_by true m = sign_turned m
sign_turned_by false m = sign_same m

-- turning a product once for each factor that is turned
turned-product : (a b c : Bool) (y z : ℤ) → turned (a && differ b c) (y *ℤ z) ≡ turned (a && b) y *ℤ turned (a && c) z
unfolding turned
turned-product false b c y z = refl
turned-product true false false y z = refl
turned-product true false true y z = sym (int_mul_neg y z)
turned-product true true false y z = sym (int_neg_mul y z)
turned-product true true true y z =
    let first = int_neg_mul y (neg_ℤ z) in
    let second = int_mul_neg y z in
    omega (arith, ints)

-- the character at a sum of two words is the product of the characters at both
pub digit_character-plus : (u x y : List Bool) → length x ≡ length y → digit_character u (plus x y) ≡ digit_character u x *ℤ digit_character u y
digit_character-plus [] x y h = refl
digit_character-plus (a ∷ u) [] [] h = refl
digit_character-plus (a ∷ u) [] (c ∷ y) h = absurd (omega arith)
digit_character-plus (a ∷ u) (b ∷ x) [] h = absurd (omega arith)
digit_character-plus (a ∷ u) (b ∷ x) (c ∷ y) h =
    let ih = digit_character-plus u x y (omega arith) in
    sign_turned_by (a && differ b c) (common_digits u (plus x y)) ∙ ap (turned (a && differ b c)) ih
    ∙ turned-product a b c (digit_character u x) (digit_character u y)
    ∙ ap₂ (λ p q. p *ℤ q) (sym (sign_turned_by (a && b) (common_digits u x))) (sym (sign_turned_by (a && c) (common_digits u y)))

-- the characters at the sum of two words of n digits, by their distance
pub total-digit_character_pair : (n k : ℕ) (x y : List Bool) → length x ≡ n → length y ≡ n
    → total (λ u. digit_character u x *ℤ digit_character u y) (digit_words n k) ≡ signed_binomial (apart x y) (n - apart x y) k
total-digit_character_pair n k x y p q =
    let same : length x ≡ length y = omega arith in
    let long : length (plus x y) ≡ n = length-plus x y same ∙ p in
    let differences = ones-plus x y in
    let others = ones-zeros (plus x y) in
    let rest : zeros (plus x y) ≡ n - apart x y = omega arith in
    total-congruence (λ u. digit_character u x *ℤ digit_character u y) (λ u. digit_character u (plus x y)) (digit_words n k) (λ u. sym (digit_character-plus u x y same))
    ∙ ap (λ m. total (λ u. digit_character u (plus x y)) (digit_words m k)) (sym long)
    ∙ total-digit_character (plus x y) k
    ∙ ap₂ (λ i m. signed_binomial i m k) differences rest

-- over all pairs of words of a list, the sums add up to the squares of the character sums: the Hamming scheme's inequalities as an identity
pub pair_total-digit_characters : (n k : ℕ) (xs : List (List Bool)) → All (λ x. length x ≡ n) xs
    → pair_total (λ x y. signed_binomial (apart x y) (n - apart x y) k) xs ≡ total (λ u. square (total (digit_character u) xs)) (digit_words n k)
pair_total-digit_characters n k xs lengths =
    sym
    (total-squares digit_character (digit_words n k) xs
    ∙ pair_total-congruence_within (λ x. length x ≡ n) (λ x y. total (λ u. digit_character u x *ℤ digit_character u y) (digit_words n k)) (λ x y. signed_binomial (apart x y) (n - apart x y) k) xs
    (total-digit_character_pair n k) lengths)
