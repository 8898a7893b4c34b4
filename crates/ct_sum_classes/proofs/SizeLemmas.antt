-- How many words there are by their weight and the sum of their places, from those that are one digit shorter.
use Rattle.std.proofs.Common.{◌≡◌, ◌≢◌, ℕ, zero, suc, ◌+◌, ◌-◌, ◌*◌, ◌/◌, ◌%◌, ◌^◌, ◌<◌, ◌≤◌, Bool, false, cond, if◌then◌else◌, ◌==◌, ◌&&◌, List, [], ◌∷◌, length, get_or, set, replicate, get_or-set_same, get_or-set_other, below_more, refl, sym, subst, ap, ap₂, ◌∙◌, inl, inr, arith, add-one, pow-suc, eq-eqb, ne_eqb}
use Rattle.std.specs.List.{count_by}
use Rattle.std.proofs.Math.Nat.{add-mod_right, add-mul-mod_self_left, mod-add-div, mod-eq_of_lt, pow-le-pow_right}
use Rattle.std.proofs.lemmas.Bool.{cases_eq}
use Rattle.std.proofs.lemmas.Nat.{mod-mul-add, div-mul-add}
use Rattle.std.proofs.lemmas.List.{get_or-replicate}
use Rattle.std.proofs.lemmas.List.Sums.{sum_by-append, length-filter, count_by-le-length}
use Rattle.ct_words.proofs.Counting.Sums.{sum_by-congruence, sum_by-zero}
use Rattle.ct_words.specs.Word.{digit, weight}
use Rattle.ct_words.specs.Text.{tabulate}
use Rattle.ct_words.specs.Characters.{words_of_length}
use Rattle.ct_words.specs.declared.limits.TheConstants.{MAX_N, MAX_BOUND}
use Rattle.ct_words.proofs.TextLemmas.{length-tabulate}
use Rattle.ct_words.proofs.WordLemmas.{last_digit, digit_half}
use Rattle.ct_words.specs.Constructions.Joined.{followed_by}
use Rattle.ct_words.proofs.Constructions.AppendLemmas.{weight-followed}
use Rattle.ct_words.proofs.Constructions.EvenLemmas.{tabulate-push}
use Rattle.ct_sum_classes.specs.SumClass.{place_sum, in_sum_class, sum_class}
use Rattle.ct_sum_classes.specs.Inside.Sizes.{size_of, IsRow, IsLow}
use Rattle.ct_sum_classes.proofs.PlaceSums.{sum_of_places_same}

-- the place sum of a word that is followed by a digit
pub place_sum-followed : (m x a : ℕ) → a < 2 → place_sum (suc m) (followed_by 1 x a) ≡ (if a == 1 then m else 0) + place_sum m x
unfolding place_sum
place_sum-followed m x a h =
    ap₂ (λ i j. i + j)
    (ap (λ q. if q == 1 then m else 0) (last_digit m (x * 2 + a) ∙ mod-mul-add x 2 a h))
    (sum_of_places_same (λ p. digit (suc m) (x * 2 + a) p == 1) (λ p. digit m x p == 1) m
    (λ p within. ap (λ q. q == 1) (digit_half m (x * 2 + a) p within ∙ ap (λ y. digit m y p) (div-mul-add x 2 a h))))

-- how many numbers up to m pass
count-push : (p : ℕ → Bool) (m : ℕ) → count_by p (tabulate (λ x. x) (suc m)) ≡ count_by p (tabulate (λ x. x) m) + cond (p m) 1 0
count-push p m =
    ap (count_by p) (tabulate-push (λ x. x) m)
    ∙ sum_by-append (λ x. cond (p x) 1 0) (tabulate (λ x. x) m) (m ∷ []) ∙ omega arith

-- of the first 2k words those pass that are one of the first k words followed by a 0 or by a 1
count_of_twice : (p : ℕ → Bool) (k : ℕ) → count_by p (tabulate (λ x. x) (k * 2))
    ≡ count_by (λ x. p (followed_by 1 x 0)) (tabulate (λ x. x) k) + count_by (λ x. p (followed_by 1 x 1)) (tabulate (λ x. x) k)
count_of_twice p zero = refl
count_of_twice p (suc k) =
    let twice : suc k * 2 ≡ suc (suc (k * 2)) = omega arith in
    let last = ap (λ x. cond {A = ℕ} (p x) 1 0) (let e : k * 2 ≡ followed_by 1 k 0 = omega arith in e) in
    let next = ap (λ x. cond {A = ℕ} (p x) 1 0) (let e : suc (k * 2) ≡ followed_by 1 k 1 = omega arith in e) in
    let before = count_of_twice p k in
    let here = count-push p (k * 2) in
    let there = count-push p (suc (k * 2)) in
    let zeros = count-push (λ x. p (followed_by 1 x 0)) k in
    let ones = count-push (λ x. p (followed_by 1 x 1)) k in
    ap (λ m. count_by p (tabulate (λ x. x) m)) twice ∙ omega arith

count-suc : (p : ℕ → Bool) (m : ℕ) → count_by p (words_of_length (suc m))
    ≡ count_by (λ x. p (followed_by 1 x 0)) (words_of_length m) + count_by (λ x. p (followed_by 1 x 1)) (words_of_length m)
count-suc p m = ap (λ k. count_by p (tabulate (λ x. x) k)) (pow-suc 2 m) ∙ count_of_twice p (2 ^ m)

-- tests that agree count alike
count_same : (p q : ℕ → Bool) (xs : List ℕ) → ((x : ℕ) → p x ≡ q x) → count_by p xs ≡ count_by q xs
count_same p q xs same = sum_by-congruence (λ x. cond (p x) 1 0) (λ x. cond (q x) 1 0) xs (λ x. ap (λ t. cond {A = ℕ} t 1 0) (same x))

count-none : (p : ℕ → Bool) (xs : List ℕ) → ((x : ℕ) → p x ≡ false) → count_by p xs ≡ 0
count-none p xs none =
    sum_by-congruence (λ x. cond (p x) 1 0) (λ x. 0) xs (λ x. ap (λ t. cond {A = ℕ} t 1 0) (none x)) ∙ sum_by-zero xs

-- a remainder does not change under the divisor
pub mod_shifted : (n t u : ℕ) → (t % n + u) % n ≡ (t + u) % n
mod_shifted n t u =
    let parts = mod-add-div t n in
    let whole : t % n + u + n * (t / n) ≡ t + u = omega arith in
    sym (add-mul-mod_self_left (t % n + u) n (t / n)) ∙ ap (λ z. z % n) whole

-- two numbers have one remainder where they have one with k more
pub remainders_shifted : (n k s t : ℕ) → k ≤ n → ((s + k) % n == (t + k) % n) ≡ (s % n == t % n)
remainders_shifted n k s t few = elim (cases_eq (s % n) (t % n)) [
  | inl same ↦
      let whole = sym (mod_shifted n s k) ∙ ap (λ r. (r + k) % n) same ∙ mod_shifted n t k in
      eq-eqb ((s + k) % n) ((t + k) % n) whole ∙ sym (eq-eqb (s % n) (t % n) same)
  | inr other ↦
      ne_eqb ((s + k) % n) ((t + k) % n) (λ same.
      other (sym (turned s) ∙ ap (λ r. (r + (n - k)) % n) same ∙ turned t)) ∙ sym (ne_eqb (s % n) (t % n) other)
]
  where
    turned : (u : ℕ) → ((u + k) % n + (n - k)) % n ≡ u % n
    turned u =
        let whole : u + k + (n - k) ≡ u + n = omega arith in
        mod_shifted n (u + k) (n - k) ∙ ap (λ z. z % n) whole ∙ add-mod_right u n

-- with m more a number has the remainder s just where it had that of s - m
residue_before : (n m s t : ℕ) → m < n → s < n → ((m + t) % n == s) ≡ (t % n == (s + (n - m)) % n)
residue_before n m s t within below =
    let whole : m + t + (n - m) ≡ t + n = omega arith in
    ap (λ r. (m + t) % n == r) (sym (mod-eq_of_lt below)) ∙ sym (remainders_shifted n (n - m) (m + t) s (omega arith))
    ∙ ap (λ r. r == (s + (n - m)) % n) (ap (λ z. z % n) whole ∙ add-mod_right t n)

-- two numbers are equal where the next ones are
pub suc_eqb : (a b : ℕ) → (suc a == suc b) ≡ (a == b)
suc_eqb a b = elim (cases_eq a b) [
  | inl same ↦ eq-eqb (suc a) (suc b) (ap suc same) ∙ sym (eq-eqb a b same)
  | inr other ↦ ne_eqb (suc a) (suc b) (λ e. other (omega arith)) ∙ sym (ne_eqb a b other)
]

-- no place more makes no sets of no place more
pub size-none_more : (n m s : ℕ) → size_of n (m + 1) 0 s ≡ size_of n m 0 s
size-none_more n m s =
    let test = λ (x : ℕ). weight (suc m) x == 0 && place_sum (suc m) x % n == s in
    ap (λ k. size_of n k 0 s) (add-one m) ∙ count-suc test m
    ∙ ap₂ (λ i j. i + j)
    (count_same (λ x. test (followed_by 1 x 0)) (λ x. weight m x == 0 && place_sum m x % n == s) (words_of_length m) (λ x.
    let plain : weight m x + 0 ≡ weight m x = omega arith in
    let no_more : 0 + place_sum m x ≡ place_sum m x = omega arith in
    ap₂ (λ i j. i == 0 && j % n == s) (weight-followed m x 0 (omega arith) ∙ plain) (place_sum-followed m x 0 (omega arith) ∙ no_more)))
    (count-none (λ x. test (followed_by 1 x 1)) (words_of_length m) (λ x.
    let more : weight m x + 1 ≡ suc (weight m x) = omega arith in
    ap (λ i. i == 0 && place_sum (suc m) (followed_by 1 x 1) % n == s) (weight-followed m x 1 (omega arith) ∙ more)
    ∙ ap (λ b. b && place_sum (suc m) (followed_by 1 x 1) % n == s) (ne_eqb (suc (weight m x)) 0 (λ e. omega arith))))
    ∙ omega arith

-- with the place m there are the sets without it, and those of one place fewer and of a sum that is m less with it
pub size-more : (n m k s : ℕ) → m < n → s < n → size_of n (m + 1) (suc k) s ≡ size_of n m (suc k) s + size_of n m k ((s + (n - m)) % n)
size-more n m k s within below =
    let test = λ (x : ℕ). weight (suc m) x == suc k && place_sum (suc m) x % n == s in
    ap (λ j. size_of n j (suc k) s) (add-one m) ∙ count-suc test m
    ∙ ap₂ (λ i j. i + j)
    (count_same (λ x. test (followed_by 1 x 0)) (λ x. weight m x == suc k && place_sum m x % n == s) (words_of_length m) (λ x.
    let plain : weight m x + 0 ≡ weight m x = omega arith in
    let no_more : 0 + place_sum m x ≡ place_sum m x = omega arith in
    ap₂ (λ i j. i == suc k && j % n == s) (weight-followed m x 0 (omega arith) ∙ plain) (place_sum-followed m x 0 (omega arith) ∙ no_more)))
    (count_same (λ x. test (followed_by 1 x 1)) (λ x. weight m x == k && place_sum m x % n == (s + (n - m)) % n) (words_of_length m) (λ x.
    let more : weight m x + 1 ≡ suc (weight m x) = omega arith in
    ap₂ (λ i j. i == suc k && j % n == s) (weight-followed m x 1 (omega arith) ∙ more) (place_sum-followed m x 1 (omega arith))
    ∙ ap₂ (λ a b. a && b) (suc_eqb (weight m x) k) (residue_before n m s (place_sum m x) within below)))

-- a word of no place has weight 0 and the place sum 0
pub size-empty : (n : ℕ) → 1 ≤ n → size_of n 0 0 0 ≡ 1
unfolding weight place_sum
size-empty n some = ap (λ r. 0 + cond {A = ℕ} (r == 0) 1 0) (mod-eq_of_lt {n = 0} {m = n} some)

pub size-empty_other : (n s : ℕ) → 1 ≤ n → size_of n 0 0 (suc s) ≡ 0
unfolding weight place_sum
size-empty_other n s some =
    ap (λ r. 0 + cond {A = ℕ} (r == suc s) 1 0) (mod-eq_of_lt {n = 0} {m = n} some)
    ∙ ap (λ b. 0 + cond {A = ℕ} b 1 0) (ne_eqb 0 (suc s) (λ e. omega arith))

pub size-empty_more : (n k s : ℕ) → size_of n 0 (suc k) s ≡ 0
unfolding weight place_sum
size-empty_more n k s = ap (λ b. 0 + cond {A = ℕ} (b && 0 % n == s) 1 0) (ne_eqb 0 (suc k) (λ e. omega arith))

-- the sum without the place m, of a sum below m and of one from m on
pub sum_below : (n m s : ℕ) → m ≤ n → s < m → (s + (n - m)) % n ≡ s + (n - m)
sum_below n m s within below = mod-eq_of_lt {n = s + (n - m)} {m = n} (omega arith)

pub sum_from : (n m s : ℕ) → m ≤ n → m ≤ s → s < n → (s + (n - m)) % n ≡ s - m
sum_from n m s within from below =
    let whole : s + (n - m) ≡ s - m + n = omega arith in
    ap (λ t. t % n) whole ∙ add-mod_right (s - m) n ∙ mod-eq_of_lt {n = s - m} {m = n} (omega arith)

-- no set has more places than there are
pub size-beyond : (n m k s : ℕ) → m ≤ n → s < n → m < k → size_of n m k s ≡ 0
size-beyond n m zero s within below beyond = absurd (omega arith)
size-beyond n zero (suc k) s within below beyond = size-empty_more n k s
size-beyond n (suc m) (suc k) s within below beyond =
    let without = size-beyond n m (suc k) s (omega arith) below (omega arith) in
    let small : (s + (n - m)) % n < n = omega arith in
    let with_it = size-beyond n m k ((s + (n - m)) % n) (omega arith) small (omega arith) in
    let more = size-more n m k s (omega arith) below in
    ap (λ j. size_of n j (suc k) s) (sym (add-one m)) ∙ more ∙ omega arith

-- there are at most as many as words
pub size-le : (n m k s : ℕ) → m ≤ MAX_N → size_of n m k s ≤ MAX_BOUND
size-le n m k s few =
    let most = count_by-le-length (λ x. weight m x == k && place_sum m x % n == s) (words_of_length m) in
    let long = length-tabulate (λ x. x) (2 ^ m) in
    let powers : 2 ^ m ≤ MAX_BOUND = pow-le-pow_right (omega arith) few in
    omega arith

-- and these are the words of the class
pub size-is : (n w r : ℕ) → length (sum_class n w r) ≡ size_of n n w r
size-is n w r = length-filter (in_sum_class n w r) (words_of_length n)

-- a row of zeros
pub zeros : (k s : ℕ) → ◌≡◌ {A = ℕ} (get_or (replicate k 0) s 0) 0
zeros zero s = refl
zeros (suc k) zero = refl
zeros (suc k) (suc s) = zeros k s

-- what is told of the first of a list and of each other one holds of them all
pub each_of_first : {X : Type 0} (P : ℕ → X → Type 0) (x y d : X) → P 0 x → ((k : ℕ) → P (suc k) y) → (m k : ℕ) → k < suc m
    → P k (get_or (x ∷ replicate m y) k d)
each_of_first P x y d first other m zero within = first
each_of_first P x y d first other m (suc k) within = subst (P (suc k)) (sym (get_or-replicate m k y d (omega arith))) (other k)

-- the first row stays with the next place
pub first_row-next : (n m : ℕ) (row : List ℕ) → IsRow n m 0 row → IsRow n (m + 1) 0 row
first_row-next n m row is = λ s within. is s within ∙ sym (size-none_more n m s)

-- nor does a row of more places than there are with the next one
pub row_beyond-next : (n m k : ℕ) (row : List ℕ) → m < n → m + 1 < k → IsRow n m k row → IsRow n (m + 1) k row
row_beyond-next n m k row within beyond is = λ s below.
    is s below ∙ size-beyond n m k s (omega arith) below (omega arith) ∙ sym (size-beyond n (m + 1) k s (omega arith) below beyond)

-- a row of sizes is low
pub row-low : (n m k : ℕ) (row : List ℕ) → m ≤ MAX_N → IsRow n m k row → IsLow n row
row-low n m k row few is = λ s within. let same = is s within in let most = size-le n m k s few in omega arith

-- what holds of an item that is not written still holds
pub set_other : {X : Type 0} (P : ℕ → X → Type 0) (xs : List X) (k : ℕ) (x d : X) (j : ℕ) → j ≢ k → P j (get_or xs j d)
    → P j (get_or (set xs k x) j d)
set_other P xs k x d j other here = subst (P j) (sym (get_or-set_other xs k j x d other)) here

-- what holds of each item below k and of a new one at k holds of each below k + 1
pub set_more : {X : Type 0} (P : ℕ → X → Type 0) (xs : List X) (k : ℕ) (x d : X) → k < length xs → ((j : ℕ) → j < k
    → P j (get_or xs j d)) → P k x
    → (j : ℕ) → j < k + 1 → P j (get_or (set xs k x) j d)
set_more P xs k x d within before here =
    below_more (λ j. P j (get_or (set xs k x) j d)) k
    (λ j h. let ne : j ≢ k = omega arith in set_other P xs k x d j ne (before j h))
    (subst (P k) (sym (get_or-set_same xs k x d within)) here)
