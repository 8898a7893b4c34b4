-- A sum class is a code of distance 4 (Graham and Sloane 1980).
use Rattle.std.proofs.Common.{◌≡◌, ◌≢◌, ℕ, suc, ◌+◌, ◌/◌, ◌%◌, ◌^◌, ◌<◌, ◌≤◌, true, ◌==◌, length, Some, All, AllPairs, Contains, sym, ◌∙◌, inl, inr, arith, eq-eqb, eqb-true}
use Rattle.std.specs.List.Sorted.{IsStrictlyIncreasing}
use Rattle.std.proofs.Math.Nat.{div-add-mod', mul-le-mul_left}
use Rattle.std.proofs.lemmas.Bool.{cases_lt, and_parts, and_from}
use Rattle.std.proofs.lemmas.List.{get_or_default}
use Rattle.std.proofs.lemmas.List.Elements.{All-contains, All-filter, All-weaker, filter_passes}
use Rattle.std.proofs.lemmas.List.Kept.{AllPairs-from_increasing, IsStrictlyIncreasing-filter}
use Rattle.ct_words.proofs.Counting.Pairs.{AllPairs-weaker, AllPairs-within}
use Rattle.ct_words.specs.Word.{digit, weight, distance}
use Rattle.ct_words.specs.Characters.{words_of_length}
use Rattle.ct_words.specs.declared.limits.TheConstants.{MAX_N}
use Rattle.ct_words.proofs.TextLemmas.{length-tabulate, get_or-tabulate}
use Rattle.ct_words.proofs.WordLemmas.{digit-lt, weights_of_pair, distance-pos}
use Rattle.ct_words.specs.Code.{IsCode, IsSoundCode}
use Rattle.ct_words.proofs.InLists.{Contains-filter}
use Rattle.ct_words.proofs.Constructions.EvenLemmas.{words_of_length-below, words_of_length-ascending}
use Rattle.ct_sum_classes.specs.SumClass.{place_sum, in_sum_class, sum_class}
use Rattle.ct_sum_classes.proofs.PlaceSums.{AreNear, sums_of_two}

-- numbers with one remainder do not differ by less than the divisor
pub not_near : (n s t : ℕ) → s % n ≡ t % n → s < t → t < s + n → ⊥
not_near n s t same low high =
    let first = div-add-mod' s n in
    let second = div-add-mod' t n in
    elim (cases_lt (s / n) (t / n)) [
      | inl less ↦ let more = mul-le-mul_left {m = suc (s / n)} {n = t / n} n less in omega arith
      | inr not_less ↦ let more = mul-le-mul_left {m = t / n} {n = s / n} n not_less in omega arith
    ]

near_differ : (n s t : ℕ) → s % n ≡ t % n → AreNear n s t → ⊥
near_differ n s t same (inl h) = not_near n s t same h.0 h.1
near_differ n s t same (inr h) = not_near n t s (sym same) h.0 h.1

-- two words of one weight and at distance 2 have place sums that differ modulo the length
place_sums_differ : (n w x y : ℕ) → weight n x ≡ w → weight n y ≡ w → distance n x y ≡ 2 → place_sum n x % n ≡ place_sum n y % n → ⊥
unfolding weight distance place_sum
place_sums_differ n w x y first second two same =
    near_differ n (place_sum n x) (place_sum n y) same
    (sums_of_two (digit n x) (digit n y) n (digit-lt n x) (digit-lt n y) two (first ∙ sym second))

-- so two different words of a class differ at four places or more
pub far_in_class : (n w r x y : ℕ) → x < 2 ^ n → y < 2 ^ n → in_sum_class n w r x ≡ true → in_sum_class n w r y ≡ true → x ≢ y
    → 4 ≤ distance n x y
far_in_class n w r x y below below' in_class in_class' other =
    let here = and_parts (weight n x == w) (place_sum n x % n == r) in_class in
    let there = and_parts (weight n y == w) (place_sum n y % n == r) in_class' in
    let weight_is = eqb-true (weight n x) w here.0 in
    let weight_is' = eqb-true (weight n y) w there.0 in
    let same = eqb-true (place_sum n x % n) r here.1 ∙ sym (eqb-true (place_sum n y % n) r there.1) in
    let some = distance-pos n x y below below' other in
    let both = weights_of_pair n x y in
    elim (cases_lt (distance n x y) 4) [
      | inl close ↦
          let two : distance n x y ≡ 2 = omega arith in
          absurd (place_sums_differ n w x y weight_is weight_is' two same)
      | inr far ↦ omega arith
    ]

pub sum_class-below : (n w r : ℕ) → All (λ x. x < 2 ^ n) (sum_class n w r)
sum_class-below n w r = All-filter (in_sum_class n w r) (λ x. x < 2 ^ n) (words_of_length n) (words_of_length-below n)

pub sum_class-ascending : (n w r : ℕ) → IsStrictlyIncreasing (sum_class n w r)
sum_class-ascending n w r = IsStrictlyIncreasing-filter (in_sum_class n w r) (words_of_length n) (words_of_length-ascending n)

-- a sum class is a code of distance 4 and constant weight
pub IsCode-sum_class : (n w r : ℕ) → IsCode n 4 (Some w) (sum_class n w r)
IsCode-sum_class n w r =
    let passes = filter_passes (in_sum_class n w r) (words_of_length n) in
    let other : AllPairs (λ x y. x ≢ y) (sum_class n w r) =
    AllPairs-weaker (λ x y. x < y) (λ x y. x ≢ y) (sum_class n w r) (λ x y less same. omega arith) (AllPairs-from_increasing
    (sum_class n w r) (sum_class-ascending n w r)) in
    record {
      lengths = sum_class-below n w r;
      different = other;
      apart = AllPairs-within (λ x. (x < 2 ^ n) × (in_sum_class n w r x ≡ true)) (λ x y. x ≢ y) (λ x y. 4 ≤ distance n x y)
          (sum_class n w r)
          (λ x y p q. far_in_class n w r x y p.0 q.0 p.1 q.1) (λ k z h. (sum_class-below n w r k z h, passes k z h)) other;
      weights = All-weaker (λ x. in_sum_class n w r x ≡ true) (λ x. weight n x ≡ w)
          (λ x h. eqb-true (weight n x) w (and_parts (weight n x == w) (place_sum n x % n == r) h).0) (sum_class n w r) passes;
    }

-- the value of a code, where it has a word
pub sound-sum_class : (n w r : ℕ) → 1 ≤ n → n ≤ MAX_N → 1 ≤ length (sum_class n w r)
    → IsSoundCode (record { n = n; d = 4; w = Some w; words = sum_class n w r })
sound-sum_class n w r some few holds =
    record {
      length_in_range = (some, few);
      distance_in_range = (omega arith, omega arith);
      some = holds;
      ascending = sum_class-ascending n w r;
      code = IsCode-sum_class n w r;
    }

-- the words of a class
pub word_of_class : (n w r x : ℕ) → Contains (sum_class n w r) x → (x < 2 ^ n) × (weight n x ≡ w) × (place_sum n x % n ≡ r)
word_of_class n w r x contains =
    let passes =
    All-contains (λ y. in_sum_class n w r y ≡ true) (sum_class n w r) x (filter_passes (in_sum_class n w r) (words_of_length n)) contains in
    let parts = and_parts (weight n x == w) (place_sum n x % n == r) passes in (
      All-contains (λ y. y < 2 ^ n) (sum_class n w r) x (sum_class-below n w r) contains,
      eqb-true (weight n x) w parts.0,
      eqb-true (place_sum n x % n) r parts.1,
    )

-- and that there is no other
pub class_of_word : (n w r x : ℕ) → x < 2 ^ n → weight n x ≡ w → place_sum n x % n ≡ r → Contains (sum_class n w r) x
class_of_word n w r x below weight_is sum_is =
    let long = length-tabulate (λ y. y) (2 ^ n) in
    let within : x < length (words_of_length n) = omega arith in
    Contains-filter (in_sum_class n w r) (words_of_length n) x
    (and_from (weight n x == w) (place_sum n x % n == r) (eq-eqb (weight n x) w weight_is) (eq-eqb (place_sum n x % n) r sum_is))
    (x, within, get_or_default (words_of_length n) x x 0 within ∙ get_or-tabulate (λ y. y) (2 ^ n) x below)
