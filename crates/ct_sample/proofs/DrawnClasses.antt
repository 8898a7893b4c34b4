-- The sum classes that the sample draws: each has a word, and none has too many.
use Rattle.std.proofs.Common.{◌≡◌, ℕ, zero, suc, ◌+◌, ◌-◌, ◌%◌, ◌^◌, ◌<◌, ◌≤◌, nat_le, nat_lt, ◌==◌, ◌&&◌, Bool, true, List, [], ◌∷◌, length, sum_by, refl, sym, ap, ◌∙◌, subst, arith, inl, inr, ◌⊎◌, leb-true, ltb-true, eqb-true}
use Rattle.std.specs.Prelude.{Contains, if◌then◌else◌}
use Rattle.std.proofs.lemmas.Bool.{and_parts}
use Rattle.std.proofs.lemmas.Bool.{cases_eq}
use Rattle.std.proofs.Math.Nat.{mod-lt}
use Rattle.ct_words.specs.Counting.Binomials.{choose}
use Rattle.ct_words.specs.Word.{weight}
use Rattle.ct_sum_classes.specs.SumClass.{place_sum, sum_class}
use Rattle.ct_sum_classes.specs.Inside.Sizes.{size_of}
use Rattle.ct_sum_classes.proofs.SumClasses.{class_of_word}
use Rattle.ct_sum_classes.proofs.SizeLemmas.{size-none_more, size-more, size-empty, size-empty_other, size-empty_more, size-is}

-- whether a test holds of each number below a limit
each_below : (ℕ → Bool) → ℕ → Bool
each_below test zero = true
each_below test (suc k) = test k && each_below test k

each_is : (test : ℕ → Bool) (k i : ℕ) → each_below test k ≡ true → i < k → test i ≡ true
unfolding each_below
each_is test zero i h below = absurd (omega arith)
each_is test (suc k) i h below =
    let parts = and_parts (test k) (each_below test k) h in
    elim (cases_eq i k) [
      | inl same ↦ ap test same ∙ parts.0
      | inr other ↦ each_is test k i parts.1 (omega (arith, below, other))
    ]

-- the word of length n with ones at these places
word_at : ℕ → List ℕ → ℕ
word_at n places = sum_by (λ p. 2 ^ (n - 1 - p)) places

-- the places of the ones of a word of the class of weight 3: 0, 1 and a later one, or where these don't do, the last and two of the first
three_places : ℕ → ℕ → List ℕ
three_places n r =
    if r == 1 then 0 ∷ 2 ∷ (n - 1) ∷ []
    else if r == 2 then 1 ∷ 2 ∷ (n - 1) ∷ []
    else 0 ∷ 1 ∷ ((r + (n - 1)) % n) ∷ []

-- and of weight 4
four_places : ℕ → ℕ → List ℕ
four_places n r =
    if r == 3 then 0 ∷ 1 ∷ 3 ∷ (n - 1) ∷ []
    else if r == 4 then 0 ∷ 2 ∷ 3 ∷ (n - 1) ∷ []
    else if r == 5 then 1 ∷ 2 ∷ 3 ∷ (n - 1) ∷ []
    else 0 ∷ 1 ∷ 2 ∷ ((r + (n - 3)) % n) ∷ []

class_word : ℕ → ℕ → ℕ → ℕ
class_word n w r = word_at n (if w == 3 then three_places n r else four_places n r)

-- whether it is one
is_in_class : ℕ → ℕ → ℕ → ℕ → Bool
is_in_class n w r x = nat_lt x (2 ^ n) && weight n x == w && place_sum n x % n == r

-- whether the classes of the length and the weight have these words, and there are not too many words of the weight
is_fine : ℕ → ℕ → Bool
is_fine n w = each_below (λ r. is_in_class n w r (class_word n w r)) n && nat_le (choose n w) 16384

all_fine : each_below (λ k. is_fine (k + 8) 3 && is_fine (k + 8) 4) 9 ≡ true
unfolding weight place_sum each_below word_at three_places four_places class_word is_in_class is_fine
all_fine = refl

fine : (n w : ℕ) → 8 ≤ n → n ≤ 16 → 3 ≤ w → w ≤ 4 → is_fine n w ≡ true
fine n w from to low high = at (cases_eq w 3) where
  whole : n - 8 + 8 ≡ n
  whole = omega (arith, from)

  both : (is_fine n 3 ≡ true) × (is_fine n 4 ≡ true)
  both =
      and_parts (is_fine n 3) (is_fine n 4)
      (subst (λ (m : ℕ). (is_fine m 3 && is_fine m 4) ≡ true) whole (each_is (λ k. is_fine (k + 8) 3 && is_fine (k + 8) 4) 9 (n - 8) all_fine (omega (arith, from, to))))

  at : (w ≡ 3) ⊎ ¬ (w ≡ 3) → is_fine n w ≡ true
  at (inl three) = ap (is_fine n) three ∙ both.0
  at (inr other) = let four : w ≡ 4 = omega (arith, low, high, other) in ap (is_fine n) four ∙ both.1

word_of_class : (n w r : ℕ) → is_in_class n w r (class_word n w r) ≡ true → Contains (sum_class n w r) (class_word n w r)
unfolding is_in_class
word_of_class n w r h =
    let x = class_word n w r in
    let last = and_parts (nat_lt x (2 ^ n) && weight n x == w) (place_sum n x % n == r) h in
    let first = and_parts (nat_lt x (2 ^ n)) (weight n x == w) last.0 in
    class_of_word n w r x (ltb-true x (2 ^ n) first.0) (eqb-true (weight n x) w first.1) (eqb-true (place_sum n x % n) r last.1)

pub class_some : (n w r : ℕ) → 8 ≤ n → n ≤ 16 → 3 ≤ w → w ≤ 4 → r < n → 1 ≤ length (sum_class n w r)
unfolding is_fine
class_some n w r from to low high below =
    let parts = and_parts (each_below (λ s. is_in_class n w s (class_word n w s)) n) (nat_le (choose n w) 16384) (fine n w from to low high) in
    let there = word_of_class n w r (each_is (λ s. is_in_class n w s (class_word n w s)) n r parts.0 below) in
    omega (arith, there.1)

-- there are no more sets of k of the first m numbers with a sum than there are sets of k
size-le_choose : (n m k s : ℕ) → m ≤ n → s < n → size_of n m k s ≤ choose m k
size-le_choose n zero zero zero within below = omega (arith, size-empty n (omega (arith, below)))
size-le_choose n zero zero (suc s) within below = omega (arith, size-empty_other n s (omega (arith, below)))
size-le_choose n zero (suc k) s within below = omega (arith, size-empty_more n k s)
size-le_choose n (suc m) zero s within below =
    let one : m + 1 ≡ suc m = omega arith in
    let same = ap (λ j. size_of n j zero s) (sym one) ∙ size-none_more n m s in
    let rest = size-le_choose n m zero s (omega (arith, within)) below in
    omega (arith, same, rest)
size-le_choose n (suc m) (suc k) s within below =
    let one : m + 1 ≡ suc m = omega arith in
    let turned = (s + (n - m)) % n in
    let split = ap (λ j. size_of n j (suc k) s) (sym one) ∙ size-more n m k s (omega (arith, within)) below in
    let left = size-le_choose n m (suc k) s (omega (arith, within)) below in
    let right = size-le_choose n m k turned (omega (arith, within)) (mod-lt (s + (n - m)) (omega (arith, below))) in
    omega (arith, split, left, right)

pub class_few : (n w r : ℕ) → 8 ≤ n → n ≤ 16 → 3 ≤ w → w ≤ 4 → r < n → length (sum_class n w r) ≤ 16384
unfolding is_fine
class_few n w r from to low high below =
    let parts = and_parts (each_below (λ s. is_in_class n w s (class_word n w s)) n) (nat_le (choose n w) 16384) (fine n w from to low high) in
    let few = leb-true (choose n w) 16384 parts.1 in
    let size = size-is n w r in
    let most = size-le_choose n n w r (omega arith) below in
    omega (arith, few, size, most)
