-- The words of a length, a weight and a sum of places, from those that are one digit shorter.
use Rattle.std.proofs.Common.{◌≡◌, ◌≢◌, ℕ, zero, suc, ◌+◌, ◌-◌, ◌*◌, ◌%◌, ◌^◌, ◌<◌, ◌≤◌, Bool, true, false, if◌then◌else◌, ◌==◌, ◌&&◌, List, [], ◌∷◌, ◌++◌, map, refl, subst, sym, ap, ap₂, ◌∙◌, inl, inr, arith, append_assoc, pow-suc, eq-eqb, ne_eqb}
use Rattle.std.specs.List.{filter}
use Rattle.std.proofs.Math.Nat.{add-mod_right}
use Rattle.std.proofs.lemmas.Bool.{cases_eq, cases_Bool}
use Rattle.std.proofs.lemmas.List.{map-append}
use Rattle.std.proofs.lemmas.List.Elements.{filter-append}
use Rattle.std.proofs.lemmas.Simd.{map-map}
use Rattle.ct_words.specs.Counting.Binomials.{choose}
use Rattle.ct_words.specs.Word.{places, digit, weight}
use Rattle.ct_words.specs.Text.{tabulate}
use Rattle.ct_words.specs.Characters.{words_of_length}
use Rattle.ct_words.proofs.AllWords.{tabulate-add}
use Rattle.ct_words.proofs.TextLemmas.{next_digit}
use Rattle.ct_words.proofs.WordLemmas.{places_same, places-le, weight-le}
use Rattle.ct_words.proofs.Constructions.JoinedLemmas.{weight-followed_by}
use Rattle.ct_sum_classes.specs.SumClass.{sum_of_places, place_sum, sum_class}
use Rattle.ct_sum_classes.specs.Inside.Listing.{words_of_sum}
use Rattle.ct_sum_classes.proofs.PlaceSums.{sum_of_places_same}
use Rattle.ct_sum_classes.proofs.SumClasses.{not_near}
use Rattle.ct_sum_classes.proofs.SizeLemmas.{mod_shifted, remainders_shifted}

-- the sum of the places that pass, with one place more before the others
sum_of_places-first : (f : ℕ → Bool) (m : ℕ) → sum_of_places f (suc m) ≡ sum_of_places (λ p. f (suc p)) m + places (λ p. f (suc p)) m
sum_of_places-first f zero = no_place (f 0)
  where
    no_place : (b : Bool) → (if b then 0 else 0) + 0 ≡ 0
    no_place true = refl
    no_place false = refl
sum_of_places-first f (suc m) = let before = sum_of_places-first f m in more (f (suc m)) m _ _ _ before
  where
    more : (b : Bool) (m s t c : ℕ) → s ≡ t + c → (if b then suc m else 0) + s ≡ ((if b then m else 0) + t) + ((if b then 1 else 0) + c)
    more true m s t c same = omega arith
    more false m s t c same = omega arith

-- a word that begins with a digit
one_digit : (c : ℕ) → c < 2 → weight 1 c ≡ c
unfolding weight
one_digit zero h = refl
one_digit (suc zero) h = refl
one_digit (suc (suc c)) h = absurd (omega arith)

weight-first : (m c x : ℕ) → c < 2 → x < 2 ^ m → weight (suc m) (c * 2 ^ m + x) ≡ c + weight m x
weight-first m c x small below =
    let longer : suc m ≡ 1 + m = omega arith in
    ap (λ i. weight i (c * 2 ^ m + x)) longer ∙ weight-followed_by 1 m c x below ∙ ap (λ i. i + weight m x) (one_digit c small)

place_sum-first : (m c x : ℕ) → c < 2 → x < 2 ^ m → place_sum (suc m) (c * 2 ^ m + x) ≡ place_sum m x + weight m x
unfolding weight place_sum
place_sum-first m c x small below =
    sum_of_places-first (λ p. digit (suc m) (c * 2 ^ m + x) p == 1) m
    ∙ ap₂ (λ i j. i + j)
    (sum_of_places_same (λ p. digit (suc m) (c * 2 ^ m + x) (suc p) == 1) (λ p. digit m x p == 1) m
    (λ p within. ap (λ q. q == 1) (next_digit m c x p within)))
    (places_same (λ p. digit (suc m) (c * 2 ^ m + x) (suc p) == 1) (λ p. digit m x p == 1) m
    (λ p within. ap (λ q. q == 1) (next_digit m c x p within)))

-- of the images of a list those pass whose originals pass another test
filter_images : (p q : ℕ → Bool) (g f : ℕ → ℕ) (a : ℕ) → ((i : ℕ) → i < a → p (g (f i)) ≡ q (f i))
    → filter p (tabulate (λ i. g (f i)) a) ≡ map g (filter q (tabulate f a))
filter_images p q g f zero same = refl
filter_images p q g f (suc a) same =
    let rest = filter_images p q g (λ i. f (suc i)) a (λ i h. same (suc i) (omega arith)) in
    let here = same 0 (omega arith) in
    elim (cases_Bool (q (f 0))) [
      | inl passes ↦ rw (here, passes) (ap (λ xs. g (f 0) ∷ xs) rest)
      | inr fails ↦ rw (here, fails) rest
    ]

-- the words one digit longer are those that begin with 0, and then those that begin with 1
words_of_length-first : (m : ℕ) → words_of_length (suc m) ≡ tabulate (λ x. 0 * 2 ^ m + x) (2 ^ m) ++ tabulate (λ x. 1 * 2 ^ m + x) (2 ^ m)
words_of_length-first m =
    let twice : 2 ^ suc m ≡ 2 ^ m + 2 ^ m = let more = pow-suc 2 m in omega arith in
    let zeros : (x : ℕ) → x ≡ 0 * 2 ^ m + x = λ x. omega arith in
    let ones : (x : ℕ) → 2 ^ m + x ≡ 1 * 2 ^ m + x = λ x. omega arith in
    ap (tabulate (λ x. x)) twice ∙ tabulate-add (λ x. x) (2 ^ m) (2 ^ m)
    ∙ (λ i. tabulate (λ x. zeros x i) (2 ^ m) ++ tabulate (λ x. ones x i) (2 ^ m))

-- whether a word that begins with a digit has the weight and the sum of places
test-first : (n m k s t c x : ℕ) → k ≤ n → c < 2 → x < 2 ^ m → (t + k) % n ≡ s % n
    → (weight (suc m) (c * 2 ^ m + x) == c + k && place_sum (suc m) (c * 2 ^ m + x) % n == s % n)
    ≡ (weight m x == k && place_sum m x % n == t % n)
test-first n m k s t c x few small below same =
    ap₂ (λ i j. i == c + k && j % n == s % n) (weight-first m c x small below) (place_sum-first m c x small below)
    ∙ elim (cases_eq (weight m x) k) [
      | inl is ↦
          let here = eq-eqb (c + weight m x) (c + k) (ap (λ i. c + i) is) in
          let there = eq-eqb (weight m x) k is in
          let sums = ap₂ (λ i r. (place_sum m x + i) % n == r) is (sym same) ∙ remainders_shifted n k (place_sum m x) t few in
          ap₂ (λ a b. a && b) (here ∙ sym there) sums
      | inr other ↦
          let here = ne_eqb (c + weight m x) (c + k) (λ e. other (omega arith)) in
          let there = ne_eqb (weight m x) k other in
          rw (here, there) refl
    ]

-- the words one digit longer that begin with a digit
begin : (n m k s t c : ℕ) → k ≤ n → c < 2 → (t + k) % n ≡ s % n
    → filter (λ x. weight (suc m) x == c + k && place_sum (suc m) x % n == s % n) (tabulate (λ x. c * 2 ^ m + x) (2 ^ m))
    ≡ map (λ x. c * 2 ^ m + x) (words_of_sum n m k t)
begin n m k s t c few small same =
    filter_images (λ x. weight (suc m) x == c + k && place_sum (suc m) x % n == s % n) (λ x. weight m x == k && place_sum m x % n == t % n)
    (λ x. c * 2 ^ m + x) (λ x. x) (2 ^ m) (λ x below. test-first n m k s t c x few small below same)

-- the images of a list under no change
map_same : (xs : List ℕ) → map (λ x. x) xs ≡ xs
map_same [] = refl
map_same (x ∷ xs) = ap (λ ys. x ∷ ys) (map_same xs)

-- with ones left the words begin with 0, and then with 1
pub words_of_sum-first : (n m k s t u : ℕ) → suc k ≤ n → (t + suc k) % n ≡ s % n → (u + k) % n ≡ s % n
    → words_of_sum n (suc m) (suc k) s ≡ words_of_sum n m (suc k) t ++ map (λ x. 2 ^ m + x) (words_of_sum n m k u)
words_of_sum-first n m k s t u few zeros ones =
    let passes : ℕ → Bool = λ x. weight (suc m) x == suc k && place_sum (suc m) x % n == s % n in
    let plain : (x : ℕ) → 0 * 2 ^ m + x ≡ x = λ x. omega arith in
    let once : (x : ℕ) → 1 * 2 ^ m + x ≡ 2 ^ m + x = λ x. omega arith in
    let none : 0 + suc k ≡ suc k = omega arith in
    let one : 1 + k ≡ suc k = omega arith in
    let front = ap (λ j. filter (λ x. weight (suc m) x == j && place_sum (suc m) x % n == s % n) (tabulate (λ x. 0 * 2 ^ m + x) (2 ^ m))) (sym none)
    ∙ begin n m (suc k) s t 0 few (omega arith) zeros ∙ (λ i. map (λ x. plain x i) (words_of_sum n m (suc k) t))
    ∙ map_same (words_of_sum n m (suc k) t) in
    let back = ap (λ j. filter (λ x. weight (suc m) x == j && place_sum (suc m) x % n == s % n) (tabulate (λ x. 1 * 2 ^ m + x) (2 ^ m))) (sym one)
    ∙ begin n m k s u 1 (omega arith) (omega arith) ones ∙ (λ i. map (λ x. once x i) (words_of_sum n m k u)) in
    ap (filter passes) (words_of_length-first m)
    ∙ filter-append passes (tabulate (λ x. 0 * 2 ^ m + x) (2 ^ m)) (tabulate (λ x. 1 * 2 ^ m + x) (2 ^ m))
    ∙ ap₂ (λ xs ys. xs ++ ys) front back

-- the test that fails for all
filter_none : (p : ℕ → Bool) (xs : List ℕ) → ((x : ℕ) → p x ≡ false) → filter p xs ≡ []
filter_none p [] none = refl
filter_none p (x ∷ xs) none = rw (none x) (filter_none p xs none)

-- with more ones than digits there is no word
pub words_of_sum-short : (n m k s : ℕ) → m < k → words_of_sum n m k s ≡ []
words_of_sum-short n m k s more = filter_none (λ x. weight m x == k && place_sum m x % n == s % n) (words_of_length m) (λ x.
    let most = weight-le m x in
    ap (λ b. b && place_sum m x % n == s % n) (ne_eqb (weight m x) k (λ e. omega arith)))

choose-one : (k : ℕ) → choose k 1 ≡ k
choose-one zero = refl
choose-one (suc k) = let before = choose-one k in omega arith

-- the sum of k of the first m places is between that of the first k and that of the last k
between_more : (b : Bool) (m k s j : ℕ) → (if b then 1 else 0) + k + j ≡ suc m → k ≤ m
    → ((i : ℕ) → k + i ≡ m → (choose k 2 ≤ s) × (s ≤ choose k 2 + k * i))
    → (choose ((if b then 1 else 0) + k) 2 ≤ (if b then m else 0) + s)
    × ((if b then m else 0) + s ≤ choose ((if b then 1 else 0) + k) 2 + ((if b then 1 else 0) + k) * j)
between_more true m k s j all few before =
    let now = before j (omega arith) in
    let low = now.0 in
    let high = now.1 in
    let next : 1 + k ≡ suc k = omega arith in
    let step = ap (λ i. choose i 2) next in
    let line = choose-one k in
    (omega arith, omega arith)
between_more false m k s zero all few before = absurd (omega arith)
between_more false m k s (suc i) all few before =
    let now = before i (omega arith) in
    let low = now.0 in
    let high = now.1 in
    let next : 0 + k ≡ k = omega arith in
    let step = ap (λ i. choose i 2) next in
    (omega arith, omega arith)

sum_of_places-between : (f : ℕ → Bool) (m j : ℕ) → places f m + j ≡ m
    → (choose (places f m) 2 ≤ sum_of_places f m) × (sum_of_places f m ≤ choose (places f m) 2 + places f m * j)
sum_of_places-between f zero j all = (omega arith, omega arith)
sum_of_places-between f (suc m) j all =
    between_more (f m) m (places f m) (sum_of_places f m) j all (places-le f m) (λ i here. sum_of_places-between f m i here)

place_sum-between : (m j x k : ℕ) → weight m x ≡ k → k + j ≡ m → (choose k 2 ≤ place_sum m x) × (place_sum m x ≤ choose k 2 + k * j)
unfolding weight place_sum
place_sum-between m j x k is all =
    let sums = sum_of_places-between (λ p. digit m x p == 1) m j (ap (λ i. i + j) is ∙ all) in
    subst (λ i. (choose i 2 ≤ place_sum m x) × (place_sum m x ≤ choose i 2 + i * j)) is sums

-- where too much is to be added to the least sum there is no word
pub words_of_sum-far : (n m k e : ℕ) → k ≤ m → e < n → k * (m - k) < e → words_of_sum n m k (choose k 2 + e) ≡ []
words_of_sum-far n m k e few within far =
    filter_none (λ x. weight m x == k && place_sum m x % n == (choose k 2 + e) % n) (words_of_length m) (λ x.
    elim (cases_eq (weight m x) k) [
      | inl is ↦
          let between = place_sum-between m (m - k) x k is (omega arith) in
          let low = between.0 in
          let high = between.1 in
          let other : place_sum m x % n ≢ (choose k 2 + e) % n = λ same. not_near n (place_sum m x) (choose k 2 + e) same (omega arith) (omega arith) in
          rw (eq-eqb (weight m x) k is, ne_eqb (place_sum m x % n) ((choose k 2 + e) % n) other) refl
      | inr not_is ↦ rw (ne_eqb (weight m x) k not_is) refl
    ])

-- the word of no digit has no ones
words_of_sum-empty : (n : ℕ) → words_of_sum n 0 0 0 ≡ 0 ∷ []
unfolding weight place_sum
words_of_sum-empty n = rw (eq-eqb (0 % n) (0 % n) refl) refl

-- without ones, and with nothing to be added, there is the word of zeros alone
pub words_of_sum-zero : (n m : ℕ) → 1 ≤ n → words_of_sum n m 0 0 ≡ 0 ∷ []
words_of_sum-zero n zero some = words_of_sum-empty n
words_of_sum-zero n (suc m) some =
    let passes : ℕ → Bool = λ x. weight (suc m) x == 0 && place_sum (suc m) x % n == 0 % n in
    let first : 0 * 2 ^ m + 0 ≡ 0 = omega arith in
    let front = begin n m 0 0 0 0 (omega arith) (omega arith) refl
    ∙ ap (map (λ x. 0 * 2 ^ m + x)) (words_of_sum-zero n m some) ∙ ap (λ x. x ∷ []) first in
    let back = filter_images passes (λ x. false) (λ x. 1 * 2 ^ m + x) (λ x. x) (2 ^ m) (λ x below.
    let more = weight-first m 1 x (omega arith) below in
    ap (λ b. b && place_sum (suc m) (1 * 2 ^ m + x) % n == 0 % n) (ne_eqb (weight (suc m) (1 * 2 ^ m + x)) 0 (λ e. omega arith)))
    ∙ ap (map (λ x. 1 * 2 ^ m + x)) (filter_none (λ x. false) (words_of_length m) (λ x. refl)) in
    ap (filter passes) (words_of_length-first m)
    ∙ filter-append passes (tabulate (λ x. 0 * 2 ^ m + x) (2 ^ m)) (tabulate (λ x. 1 * 2 ^ m + x) (2 ^ m))
    ∙ ap₂ (λ xs ys. xs ++ ys) front back

-- with one one left there is the word with it at the place that is to be added
pub words_of_sum-one : (n m e : ℕ) → m ≤ n → e < m → words_of_sum n m 1 e ≡ 2 ^ (m - 1 - e) ∷ []
words_of_sum-one n zero e few within = absurd (omega arith)
words_of_sum-one n (suc m) zero few within =
    let last : (n - 1 + 1) % n ≡ 0 % n = let whole : n - 1 + 1 ≡ 0 + n = omega arith in ap (λ z. z % n) whole ∙ add-mod_right 0 n in
    let plain : 2 ^ m + 0 ≡ 2 ^ m = omega arith in
    let m_is : m ≡ suc m - 1 - 0 = omega arith in
    words_of_sum-first n m 0 0 (n - 1) 0 (omega arith) last refl
    ∙ ap₂ (λ xs ys. xs ++ map (λ x. 2 ^ m + x) ys) (none m few) (words_of_sum-zero n m (omega arith))
    ∙ ap (λ x. x ∷ []) (plain ∙ ap (λ i. 2 ^ i) m_is)
  where
    none : (m : ℕ) → suc m ≤ n → words_of_sum n m 1 (n - 1) ≡ []
    none zero few = words_of_sum-short n 0 1 (n - 1) (omega arith)
    none (suc m) few =
        let least : n - 1 ≡ choose 1 2 + (n - 1) = omega arith in
        ap (words_of_sum n (suc m) 1) least ∙ words_of_sum-far n (suc m) 1 (n - 1) (omega arith) (omega arith) (omega arith)
words_of_sum-one n (suc m) (suc e) few within =
    let e_is : e + 1 ≡ suc e = omega arith in
    let plain : suc e + 0 ≡ suc e = omega arith in
    let least : suc e ≡ choose 0 2 + suc e = omega arith in
    let same : m - 1 - e ≡ suc m - 1 - suc e = omega arith in
    words_of_sum-first n m 0 (suc e) e (suc e) (omega arith) (ap (λ z. z % n) e_is) (ap (λ z. z % n) plain)
    ∙ ap₂ (λ xs ys. xs ++ map (λ x. 2 ^ m + x) ys) (words_of_sum-one n m e (omega arith) (omega arith))
    (ap (words_of_sum n m 0) least ∙ words_of_sum-far n m 0 (suc e) (omega arith) (omega arith) (omega arith))
    ∙ ap (λ i. 2 ^ i ∷ []) same

-- those of the whole length are the words of the class
pub words_of_sum-class : (n w r e : ℕ) → (e + choose w 2 % n) % n ≡ r → map (λ x. 0 + x) (words_of_sum n n w (choose w 2 + e)) ≡ sum_class n w r
words_of_sum-class n w r e same =
    let plain : (x : ℕ) → 0 + x ≡ x = λ x. omega arith in
    let turned : choose w 2 % n + e ≡ e + choose w 2 % n = omega arith in
    let sums = sym (mod_shifted n (choose w 2) e) ∙ ap (λ z. z % n) turned ∙ same in
    (λ i. map (λ x. plain x i) (words_of_sum n n w (choose w 2 + e))) ∙ map_same (words_of_sum n n w (choose w 2 + e))
    ∙ ap (λ z. filter (λ x. weight n x == w && place_sum n x % n == z) (words_of_length n)) sums

-- the words with ones that begin with a word and continue with 0, and then with 1
words_of_sum-next : (b n m k e less : ℕ) → 1 ≤ k → k ≤ n → 1 ≤ m → (less + k) % n ≡ e
    → map (λ x. b + x) (words_of_sum n m k (choose k 2 + e))
    ≡ map (λ x. b + x) (words_of_sum n (m - 1) k (choose k 2 + less))
    ++ map (λ x. (b + 2 ^ (m - 1)) + x) (words_of_sum n (m - 1) (k - 1) (choose (k - 1) 2 + e))
words_of_sum-next b n m zero e less some few digits same = absurd (omega arith)
words_of_sum-next b n zero (suc k) e less some few digits same = absurd (omega arith)
words_of_sum-next b n (suc m) (suc k) e less some few digits same =
    let m_is : suc m - 1 ≡ m = omega arith in
    let k_is : suc k - 1 ≡ k = omega arith in
    let line = choose-one k in
    let pairs = choose (suc k) 2 in
    let zeros : (pairs + less + suc k) % n ≡ (pairs + e) % n =
    let apart : pairs + less + suc k ≡ less + suc k + pairs = omega arith in
    let turned : e + pairs ≡ pairs + e = omega arith in
    ap (λ z. z % n) apart ∙ sym (mod_shifted n (less + suc k) pairs) ∙ ap (λ z. (z + pairs) % n) same ∙ ap (λ z. z % n) turned in
    let ones : (choose k 2 + e + k) % n ≡ (pairs + e) % n =
    let whole : choose k 2 + e + k ≡ pairs + e = omega arith in ap (λ z. z % n) whole in
    let together : (x : ℕ) → b + (2 ^ m + x) ≡ (b + 2 ^ m) + x = λ x. omega arith in
    rw (m_is, k_is) (ap (map (λ x. b + x)) (words_of_sum-first n m k (pairs + e) (pairs + less) (choose k 2 + e) few zeros ones)
    ∙ map-append (λ x. b + x) (words_of_sum n m (suc k) (pairs + less)) (map (λ x. 2 ^ m + x) (words_of_sum n m k (choose k 2 + e)))
    ∙ ap (λ ys. map (λ x. b + x) (words_of_sum n m (suc k) (pairs + less)) ++ ys)
    (map-map (λ x. b + x) (λ x. 2 ^ m + x) (words_of_sum n m k (choose k 2 + e))
    ∙ (λ i. map (λ x. together x i) (words_of_sum n m k (choose k 2 + e)))))

-- a list to which one word is appended, where there is only one
pub appended-only : (b x : ℕ) (before after words : List ℕ) → after ≡ before ++ (b + x) ∷ [] → words ≡ x ∷ []
    → after ≡ before ++ map (λ y. b + y) words
appended-only b x before after words after_is only = after_is ∙ ap (λ ys. before ++ map (λ y. b + y) ys) (sym only)

-- a list to which the ones are appended, and then the others, is the list before with all of them
pub appended-both : (b n m k e less one : ℕ) (before first second : List ℕ) → 1 ≤ k → k ≤ n → 1 ≤ m → (less + k) % n ≡ e
    → one ≡ 2 ^ (m - 1)
    → first ≡ before ++ map (λ x. b + x) (words_of_sum n (m - 1) k (choose k 2 + less))
    → second ≡ first ++ map (λ x. (b + one) + x) (words_of_sum n (m - 1) (k - 1) (choose (k - 1) 2 + e))
    → second ≡ before ++ map (λ x. b + x) (words_of_sum n m k (choose k 2 + e))
appended-both b n m k e less one before first second some few digits same one_is first_is second_is =
    let ending = words_of_sum n (m - 1) (k - 1) (choose (k - 1) 2 + e) in
    let zeros = map (λ x. b + x) (words_of_sum n (m - 1) k (choose k 2 + less)) in
    second_is ∙ ap₂ (λ xs (i : ℕ). xs ++ map (λ x. (b + i) + x) ending) first_is one_is
    ∙ append_assoc before zeros (map (λ x. (b + 2 ^ (m - 1)) + x) ending)
    ∙ ap (λ xs. before ++ xs) (sym (words_of_sum-next b n m k e less some few digits same))
