-- The least pair of items that passes a test: from the items before a place to those before a later one.
use Rattle.std.proofs.Common.{◌≡◌, ℕ, ◌+◌, ◌-◌, ◌<◌, ◌≤◌, ◌⊎◌, Bool, true, false, not, List, length, take, get_or, position, Option, Some, None, IsTrue, subst, sym, ap, ap₂, ◌∙◌, inl, inr, arith}
use Rattle.std.specs.Prelude.{MatchOption, IfSome}
use Rattle.std.specs.List.{prefix_len}
use lib.Lanes.{chunk}
use Rattle.std.proofs.lemmas.Bool.{cases_lt, both_ways, not-true, not-false}
use Rattle.std.proofs.lemmas.List.Sums.{prefix_len_passes, prefix_len_stops}
use Rattle.std.proofs.lemmas.Simd.{length-chunk, get_or-chunk}
use Rattle.ct_words.specs.Pairs.{least_pair}
use Rattle.ct_codes.specs.Inside.Across.{NoneAcross, IsFirstAcross}
use Rattle.ct_codes.specs.Inside.Within.{NoneWithin, IsLeastWithin, IsLeastWithinOrNone}
use Rattle.ct_words.proofs.PairLemmas.{IsFirst, position_cases, least_pair-at, least_pair-none}

-- the least pair of all places is the least pair
pub least_within : (test : ℕ → ℕ → Bool) (xs : List ℕ) (found : Option (ℕ × ℕ)) → IsLeastWithinOrNone test xs 0 (length xs) found → found ≡ least_pair test xs
least_within test xs None none = sym (least_pair-none test xs (λ k m order within. none k m (omega arith) (omega arith) order within))
least_within test xs (Some p) least = sym (least_pair-at test xs p.0 p.1 (record { order = order_is; within = within_is; passes = least.passes; least = least_is }))
  where
    order_is : p.0 < p.1
    order_is = least.places.1

    within_is : p.1 < length xs
    within_is = least.places.2

    in_row : (k m : ℕ) → k ≡ p.0 → k < m → IsTrue (test (get_or xs k 0) (get_or xs m 0)) → (p.0 < k) ⊎ ((p.0 ≡ k) × (p.1 ≤ m))
    in_row k m same order passes = elim (cases_lt m p.1) [
      | inl sooner ↦
          absurd (both_ways (test (get_or xs p.0 0) (get_or xs m 0)) (least.none_in_row m (omega arith) sooner)
          (subst (λ (z : ℕ). test (get_or xs z 0) (get_or xs m 0) ≡ true) same passes))
      | inr not_sooner ↦ inr (sym same, omega arith)
    ]

    least_is : (k m : ℕ) → k < m → m < length xs → IsTrue (test (get_or xs k 0) (get_or xs m 0)) → (p.0 < k) ⊎ ((p.0 ≡ k) × (p.1 ≤ m))
    least_is k m order within passes = elim (cases_lt k p.0) [
      | inl sooner ↦ absurd (both_ways (test (get_or xs k 0) (get_or xs m 0)) (least.none_before k m (omega arith) sooner order within) passes)
      | inr not_sooner ↦ elim (cases_lt p.0 k) [
        | inl later ↦ inl later
        | inr not_later ↦ in_row k m (omega arith) order passes
      ]
    ]

-- before the first place of the least pair so far, or anywhere where there is none, no item passes
pub before_first : (test : ℕ → ℕ → Bool) (xs : List ℕ) (start first : ℕ) (least : Option (ℕ × ℕ)) → IsLeastWithinOrNone test xs 0 start least
    → MatchOption least (first ≡ start) (λ p. first ≡ p.0) → (first ≤ start) × NoneWithin test xs 0 first start
before_first test xs start first None none is = (omega arith, λ k m from sooner order within. none k m from (omega arith) order within)
before_first test xs start first (Some p) least is =
    let places = least.places in
    (omega arith, λ k m from sooner order within. least.none_before k m from (omega arith) order within)

-- items of the first list and of the later one, as items of the list that both are parts of
early_item : (xs : List ℕ) (first k : ℕ) → k < first → get_or (take first xs) k 0 ≡ get_or xs k 0
early_item xs first k within = let place : 0 + k ≡ k = omega arith in get_or-chunk 0 first xs k 0 within ∙ ap (λ z. get_or xs z 0) place

across_at : (test : ℕ → ℕ → Bool) (xs : List ℕ) (first start size k m : ℕ) → k < first → m < size
    → test (get_or (take first xs) k 0) (get_or (chunk start size xs) m 0) ≡ test (get_or xs k 0) (get_or xs (start + m) 0)
across_at test xs first start size k m early within = ap₂ test (early_item xs first k early) (get_or-chunk start size xs m 0 within)

-- where no item before place `first` passes with an earlier one, and none before place i with a later one, none before i does
none_up_to : (test : ℕ → ℕ → Bool) (xs : List ℕ) (first start end i : ℕ) → start ≤ end → end ≤ length xs → i ≤ first → NoneWithin test xs 0 first start
    → NoneAcross test (take first xs) (chunk start (end - start) xs) i → NoneWithin test xs 0 i end
none_up_to test xs first start end i order_is within_is few before across = λ k m from sooner order within. elim (cases_lt m start) [
  | inl early ↦ before k m from (omega arith) order early
  | inr late ↦
      let size = length-chunk start (end - start) xs (omega arith) in
      let place : start + (m - start) ≡ m = omega arith in
      ap (λ (z : ℕ). test (get_or xs k 0) (get_or xs z 0)) (sym place)
      ∙ sym (across_at test xs first start (end - start) k (m - start) (omega arith) (omega arith)) ∙ across k (m - start) sooner (omega arith)
]

-- the first pair of an item before place `first` and a later one is the least
pub least-across : (test : ℕ → ℕ → Bool) (xs : List ℕ) (first start end i j : ℕ) → start ≤ end → end ≤ length xs → first ≤ start
    → NoneWithin test xs 0 first start → IsFirstAcross test (take first xs) (chunk start (end - start) xs) i j → IsLeastWithin test xs 0 end i (start + j)
least-across test xs first start end i j order_is within_is few before found =
    let size = length-chunk start (end - start) xs (omega arith) in
    let rows = length-chunk 0 first xs (omega arith) in
    let i_within = found.places.0 in
    let j_within = found.places.1 in
    record {
      places = (omega arith, omega arith, omega arith);
      passes = sym (across_at test xs first start (end - start) i j (omega arith) (omega arith)) ∙ found.passes;
      none_before = none_up_to test xs first start end i order_is within_is (omega arith) before found.none_before;
      none_in_row = λ m after sooner. elim (cases_lt m start) [
        | inl early ↦ before i m (omega arith) (omega arith) after early
        | inr late ↦
            let place : start + (m - start) ≡ m = omega arith in
            ap (λ (z : ℕ). test (get_or xs i 0) (get_or xs z 0)) (sym place)
            ∙ sym (across_at test xs first start (end - start) i (m - start) (omega arith) (omega arith)) ∙ found.none_in_row (m - start) (omega arith)
      ];
    }

-- where there is no such pair, the least pair so far stays, and where there is none the least pair of the later items is the least
pub least-kept : (test : ℕ → ℕ → Bool) (xs : List ℕ) (start end i j : ℕ) → start ≤ end → end ≤ length xs → IsLeastWithin test xs 0 start i j
    → NoneAcross test (take i xs) (chunk start (end - start) xs) (length (take i xs)) → IsLeastWithin test xs 0 end i j
least-kept test xs start end i j order_is within_is least across =
    let places = least.places in
    let rows = length-chunk 0 i xs (omega arith) in
    record {
      places = (omega arith, omega arith, omega arith);
      passes = least.passes;
      none_before = none_up_to test xs i start end i order_is within_is (omega arith) least.none_before (λ k m sooner within. across k m (omega arith) within);
      none_in_row = least.none_in_row;
    }

pub least-later : (test : ℕ → ℕ → Bool) (xs : List ℕ) (start end : ℕ) (found : Option (ℕ × ℕ)) → start ≤ end → end ≤ length xs → NoneWithin test xs 0 start start
    → NoneAcross test (take start xs) (chunk start (end - start) xs) (length (take start xs)) → IsLeastWithinOrNone test xs start end found
    → IsLeastWithinOrNone test xs 0 end found
least-later test xs start end found order_is within_is before across = later found
  where
    early : NoneWithin test xs 0 start end
    early =
        let rows = length-chunk 0 start xs (omega arith) in
        none_up_to test xs start start end start order_is within_is (omega arith) before (λ k m sooner within. across k m (omega arith) within)

    join : (rows : ℕ) → NoneWithin test xs start rows end → NoneWithin test xs 0 rows end
    join rows late = λ k m from sooner order within. elim (cases_lt k start) [
      | inl before_start ↦ early k m from before_start order within
      | inr after_start ↦ late k m (omega arith) sooner order within
    ]

    later : (found : Option (ℕ × ℕ)) → IsLeastWithinOrNone test xs start end found → IsLeastWithinOrNone test xs 0 end found
    later None none = join end none
    later (Some p) least =
        let places = least.places in
        record {
          places = (omega arith, places.1, places.2);
          passes = least.passes;
          none_before = join p.0 least.none_before;
          none_in_row = least.none_in_row;
        }

-- the first item of a part of a list that passes
pub record IsFirstPart (p : ℕ → Bool) (xs : List ℕ) (start size i : ℕ) : Type 0 where
  pub within : i < size
  pub passes : p (get_or xs (start + i) 0) ≡ true
  pub none_before : (m : ℕ) → start ≤ m → m < start + i → p (get_or xs m 0) ≡ false

pub first_part : (p : ℕ → Bool) (xs : List ℕ) (start size i : ℕ) → start + size ≤ length xs → position p (chunk start size xs) ≡ Some i → IsFirstPart p xs start size i
first_part p xs start size i room e = elim (position_cases p (chunk start size xs)) [
  | inl first ↦
      let same : first.0 ≡ i = cc in
      let long = length-chunk start size xs room in
      let inside = first.2.within in
      record {
        within = omega arith;
        passes = ap (λ (z : ℕ). p (get_or xs (start + z) 0)) (sym same) ∙ sym (ap p (get_or-chunk start size xs first.0 0 (omega arith))) ∙ first.2.passes;
        none_before = λ m from sooner.
            let place : start + (m - start) ≡ m = omega arith in
            ap (λ (z : ℕ). p (get_or xs z 0)) (sym place) ∙ sym (ap p (get_or-chunk start size xs (m - start) 0 (omega arith)))
            ∙ first.2.before (m - start) (omega arith);
      }
  | inr no_first ↦ cc
]

pub none_part : (p : ℕ → Bool) (xs : List ℕ) (start size : ℕ) → start + size ≤ length xs → position p (chunk start size xs) ≡ None
    → (m : ℕ) → start ≤ m → m < start + size → p (get_or xs m 0) ≡ false
none_part p xs start size room e = elim (position_cases p (chunk start size xs)) [
  | inl first ↦ cc
  | inr no_first ↦ λ m from within.
      let long = length-chunk start size xs room in
      let place : start + (m - start) ≡ m = omega arith in
      ap (λ (z : ℕ). p (get_or xs z 0)) (sym place) ∙ sym (ap p (get_or-chunk start size xs (m - start) 0 (omega arith))) ∙ no_first.1 (m - start) (omega arith)
]

-- one item more that passes with none of the other list
pub none_across-next : (test : ℕ → ℕ → Bool) (xs ys : List ℕ) (i : ℕ) → NoneAcross test xs ys i
    → ((m : ℕ) → m < length ys → test (get_or xs i 0) (get_or ys m 0) ≡ false) → NoneAcross test xs ys (i + 1)
none_across-next test xs ys i before here = λ k m sooner within. elim (cases_lt k i) [
  | inl early ↦ before k m early within
  | inr late ↦
      let same : k ≡ i = omega arith in
      ap (λ (z : ℕ). test (get_or xs z 0) (get_or ys m 0)) same ∙ here m within
]

-- what the number of items that come before the first to pass says of each
pub fails_before : (p : ℕ → Bool) (ys : List ℕ) (r m : ℕ) → r ≡ prefix_len (λ x. not (p x)) ys → m < r → p (get_or ys m 0) ≡ false
fails_before p ys r m counted sooner = not-true (p (get_or ys m 0)) (prefix_len_passes (λ x. not (p x)) ys m 0 (omega arith))

pub passes_after : (p : ℕ → Bool) (ys : List ℕ) (r : ℕ) → r ≡ prefix_len (λ x. not (p x)) ys → r < length ys → p (get_or ys r 0) ≡ true
passes_after p ys r counted few =
    not-false (p (get_or ys r 0)) (ap (λ (q : ℕ). not (p (get_or ys q 0))) counted ∙ prefix_len_stops (λ x. not (p x)) ys 0 (omega arith))

-- the first item of a list that passes
pub first_of_all : (p : ℕ → Bool) (ys : List ℕ) (i : ℕ) → position p ys ≡ Some i → IsFirst p ys i
first_of_all p ys i e = elim (position_cases p ys) [
  | inl first ↦
      let same : first.0 ≡ i = cc in
      subst (IsFirst p ys) same first.2
  | inr no_first ↦ cc
]

pub none_of_all : (p : ℕ → Bool) (ys : List ℕ) → position p ys ≡ None → (m : ℕ) → m < length ys → p (get_or ys m 0) ≡ false
none_of_all p ys e = elim (position_cases p ys) [
  | inl first ↦ cc
  | inr no_first ↦ no_first.1
]

-- its places are in order
pub places_within : (test : ℕ → ℕ → Bool) (xs : List ℕ) (found : Option (ℕ × ℕ)) → IsLeastWithinOrNone test xs 0 (length xs) found
    → IfSome found (λ p. (p.0 < p.1) × (p.1 < length xs))
places_within test xs None none = tt
places_within test xs (Some p) least = (least.places.1, least.places.2)

-- the least pair of the items before place `end`, where no item before the first place of the least pair so far passes with a later one
pub least-stays : (test : ℕ → ℕ → Bool) (xs : List ℕ) (start end first : ℕ) (least : Option (ℕ × ℕ)) (p : ℕ × ℕ) → start ≤ end → end ≤ length xs
    → IsLeastWithinOrNone test xs 0 start least → MatchOption least (first ≡ start) (λ q. first ≡ q.0)
    → NoneAcross test (take first xs) (chunk start (end - start) xs) (length (take first xs)) → least ≡ Some p → IsLeastWithinOrNone test xs 0 end least
least-stays test xs start end first None p order_is within_is none is across e = cc
least-stays test xs start end first (Some q) p order_is within_is least is across e =
    least-kept test xs start end q.0 q.1 order_is within_is least
    (subst (λ (z : ℕ). NoneAcross test (take z xs) (chunk start (end - start) xs) (length (take z xs))) is across)

pub least-begins : (test : ℕ → ℕ → Bool) (xs : List ℕ) (start end first : ℕ) (least found : Option (ℕ × ℕ)) → start ≤ end → end ≤ length xs
    → IsLeastWithinOrNone test xs 0 start least → MatchOption least (first ≡ start) (λ q. first ≡ q.0)
    → NoneAcross test (take first xs) (chunk start (end - start) xs) (length (take first xs)) → least ≡ None → IsLeastWithinOrNone test xs start end found
    → IsLeastWithinOrNone test xs 0 end found
least-begins test xs start end first None found order_is within_is none is across e later =
    least-later test xs start end found order_is within_is none
    (subst (λ (z : ℕ). NoneAcross test (take z xs) (chunk start (end - start) xs) (length (take z xs))) is across) later
least-begins test xs start end first (Some q) found order_is within_is least is across e later = cc
