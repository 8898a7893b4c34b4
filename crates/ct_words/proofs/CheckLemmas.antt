-- What it means that a list of words has no fault.
use Rattle.std.proofs.Common.{◌≡◌, ◌≢◌, ℕ, ◌<◌, ◌≤◌, ◌^◌, ◌||◌, ◌==◌, not, Bool, List, length, get_or, position, option_map, Option, Some, None, IfSome, All, AllPairs, slice_index, nat_lt, IsPermutation, IsSorted, nat_cmp, subst, lt_trans, le_of_lt, sym, refl, ap, ap₂, ◌∙◌, inl, inr, arith, eqb, eq-eqb, eqb-true, ne_eqb}
use Rattle.std.specs.List.{IsDistinct}
use Rattle.std.proofs.lemmas.Bool.{cases_eq, cases_Bool, or_from, both_ways, le-ltb, lt-ltb, ltb-false, eqb-false, or_parts, not-false}
use Rattle.std.proofs.lemmas.List.{get_or_default}
use Rattle.std.proofs.lemmas.List.Elements.{All-from_get_or}
use Rattle.std.proofs.lemmas.List.Sorted.{All-permutation, length_permutation, IsNonDecreasingBy-from_sort}
use Rattle.std.proofs.lemmas.List.Sums.{position_or_len_is}
use Rattle.std.proofs.lemmas.Map.Keys.{apart_from_distinct, IsDistinct-from_apart, IsDistinct-IsPermutation, IsStrictlyIncreasing-from_distinct}
use Rattle.std.proofs.lemmas.List.Folds.{Any-from_list_any}
use Rattle.std.proofs.lemmas.Map.Steps.{length-le_from_distinct_below}
use Rattle.ct_words.specs.Word.{distance, weight}
use Rattle.ct_words.proofs.WordLemmas.{distance_comm, distance_same, distance-pos, weight_any_length}
use Rattle.ct_words.specs.declared.entry.Entry.{Entry}
use Rattle.ct_words.specs.declared.fault.CodeFault.{CodeFault}
use Rattle.ct_words.specs.declared.fault.CodeFault.TheVariants.{Size, Weight, Repeated, Close}
use Rattle.ct_words.specs.declared.fault.TheConstants.{MAX_WORDS}
use Rattle.ct_words.specs.Pairs.{first_of, least_pair}
use Rattle.ct_words.specs.Entry.{IsEntry}
use Rattle.ct_words.specs.Code.{IsCode, IsCodeOf, IsSoundCode}
use Rattle.ct_words.specs.Check.{size_fault, weight_fault, repeated_fault, close_fault, code_fault}
use Rattle.ct_words.proofs.EntryLemmas.{entry_limits}
use Rattle.ct_words.proofs.PairLemmas.{position_cases, least_pair-none, least_pair_same, NoPair-from}

-- a relation holds of all pairs of a list where it does at the default 0
pub AllPairs-from_get_or : (R : ℕ → ℕ → Type 0) (xs : List ℕ) → ((i j : ℕ) → i < j → j < length xs → R (get_or xs i 0) (get_or xs j 0)) → AllPairs R xs
AllPairs-from_get_or R xs each = λ i j d order within.
    subst (λ b. R (get_or xs i d) b) (get_or_default xs j 0 d within)
    (subst (λ a. R a (get_or xs j 0)) (get_or_default xs i 0 d (lt_trans order within)) (each i j order within))

-- neither of two options where there is no first of them
pub first_of-None : {X : Type 0} (a b : Option X) → first_of a b ≡ None → (a ≡ None) × (b ≡ None)
first_of-None None b e = (refl, e)
first_of-None (Some x) b e = cc

-- no image where there is no value
pub option_map-None : {X Y : Type 0} (f : X → Y) (o : Option X) → option_map f o ≡ None → o ≡ None
option_map-None f None e = refl
option_map-None f (Some x) e = cc

-- two equal words, or none
repeated-none : (words : List ℕ) → repeated_fault words ≡ None → AllPairs (λ x y. x ≢ y) words
repeated-none words e =
    let none = NoPair-from (λ x y. x == y) words (option_map-None (λ p. Repeated p.0 p.1) (least_pair (λ x y. x == y) words) e) in
    AllPairs-from_get_or (λ x y. x ≢ y) words (λ i j order within. eqb-false (get_or words i 0) (get_or words j 0) (none i j order within))

repeated_none_from : (words : List ℕ) → AllPairs (λ x y. x ≢ y) words → repeated_fault words ≡ None
repeated_none_from words different =
    ap (option_map (λ p. Repeated p.0 p.1))
    (least_pair-none (λ x y. x == y) words (λ i j order within. ne_eqb (get_or words i 0) (get_or words j 0) (different i j 0 order within)))

-- two close words, or none
pub close-none : (n d : ℕ) (words : List ℕ) → close_fault n d words ≡ None → AllPairs (λ x y. d ≤ distance n x y) words
close-none n d words e =
    let none = NoPair-from (λ x y. nat_lt (distance n x y) d) words (option_map-None (λ p. Close p.0 p.1 (distance n (slice_index words p.0) (slice_index words p.1))) (least_pair (λ x y. nat_lt (distance n x y) d) words) e) in
    AllPairs-from_get_or (λ x y. d ≤ distance n x y) words (λ i j order within. ltb-false (distance n (get_or words i 0) (get_or words j 0)) d (none i j order within))

pub close_none_from : (n d : ℕ) (words : List ℕ) → AllPairs (λ x y. d ≤ distance n x y) words → close_fault n d words ≡ None
close_none_from n d words apart =
    ap (option_map (λ p. Close p.0 p.1 (distance n (slice_index words p.0) (slice_index words p.1))))
    (least_pair-none (λ x y. nat_lt (distance n x y) d) words (λ i j order within. le-ltb (distance n (get_or words i 0) (get_or words j 0)) d (apart i j 0 order within)))

-- a size within the limits is no fault
size-none : (words : List ℕ) → size_fault words ≡ None → (1 ≤ length words) × (length words ≤ MAX_WORDS)
size-none words e =
    elim (cases_Bool (length words == 0 || nat_lt MAX_WORDS (length words))) [
      | inl out ↦ let fault : size_fault words ≡ Some (Size (length words)) = rw out in cc
      | inr within ↦
          let parts = or_parts (length words == 0) (nat_lt MAX_WORDS (length words)) within in
          let some = eqb-false (length words) 0 parts.0 in
          (omega arith, ltb-false MAX_WORDS (length words) parts.1)
    ]

size_none_from : (words : List ℕ) → 1 ≤ length words → length words ≤ MAX_WORDS → size_fault words ≡ None
size_none_from words some few =
    rw (or_from (length words == 0) (nat_lt MAX_WORDS (length words)) (ne_eqb (length words) 0 (omega arith)) (le-ltb MAX_WORDS (length words) few))

-- each word has the weight, where one is given
pub weight-none : (n : ℕ) (w : Option ℕ) (words : List ℕ) → weight_fault n w words ≡ None → IfSome w (λ k. All (λ x. weight n x ≡ k) words)
weight-none n None words e = tt
weight-none n (Some w) words e = elim (position_cases (λ x. not (weight n x == w)) words) [
  | inl found ↦ let none = option_map-None Weight (position (λ x. not (weight n x == w)) words) e in let place = found.1 in cc
  | inr each ↦ All-from_get_or (λ x. weight n x ≡ w) words 0
      (λ k h. eqb-true (weight n (get_or words k 0)) w (not-false (weight n (get_or words k 0) == w) (each.1 k h)))
]

pub weight_none_from : (n : ℕ) (w : Option ℕ) (words : List ℕ) → IfSome w (λ k. All (λ x. weight n x ≡ k) words) → weight_fault n w words ≡ None
weight_none_from n None words each = refl
weight_none_from n (Some w) words each = elim (position_cases (λ x. not (weight n x == w)) words) [
  | inl found ↦ absurd (both_ways (not (weight n (get_or words found.0 0) == w))
      (ap not (eq-eqb (weight n (get_or words found.0 0)) w (each found.0 0 found.2.within))) found.2.passes)
  | inr none ↦ ap (option_map Weight) none.0
]

-- words without a fault are a code of the entry, of a size within the limits
pub code_from_no_fault : (e : Entry) (words : List ℕ) → All (λ x. x < 2 ^ e.n) words → code_fault e words ≡ None
    → (1 ≤ length words) × (length words ≤ MAX_WORDS) × IsCodeOf e words
unfolding code_fault
code_from_no_fault e words below no_fault =
    let first = first_of-None (size_fault words) _ no_fault in
    let second = first_of-None (weight_fault e.n e.w words) _ first.1 in
    let third = first_of-None (repeated_fault words) (close_fault e.n e.d words) second.1 in
    let size = size-none words first.0 in (
      size.0,
      size.1,
      record {
        lengths = below;
        different = repeated-none words third.0;
        apart = close-none e.n e.d words third.1;
        weights = weight-none e.n e.w words second.0;
      },
    )

-- and a code of the entry, of such a size, has none
pub no_fault_of_code : (e : Entry) (words : List ℕ) → 1 ≤ length words → length words ≤ MAX_WORDS → IsCodeOf e words → code_fault e words ≡ None
unfolding code_fault
no_fault_of_code e words some few code =
    rw (size_none_from words some few, weight_none_from e.n e.w words code.weights, repeated_none_from words code.different, close_none_from e.n e.d words code.apart)

-- equality of numbers, as a test, is symmetric
eqb_comm : (a b : ℕ) → eqb a b ≡ eqb b a
eqb_comm a b = elim (cases_eq a b) [ inl e ↦ eq-eqb a b e ∙ sym (eq-eqb b a (sym e)) | inr e ↦ ne_eqb a b e ∙ sym (ne_eqb b a (λ q. e (sym q))) ]

-- the words of a code in another order are a code
pub IsCode-permutation : (n d : ℕ) (w : Option ℕ) (xs ys : List ℕ) → IsPermutation xs ys → IsCode n d w xs → IsCode n d w ys
IsCode-permutation n d w xs ys moved code = record {
  lengths = All-permutation (λ x. x < 2 ^ n) xs ys moved code.lengths;
  different = λ i j z order within. eqb-false (get_or ys i z) (get_or ys j z) (apart_from_distinct eqb ys i j z distinct order within);
  apart = λ i j z order within. ltb-false (distance n (get_or ys i z) (get_or ys j z)) d (apart_from_distinct close ys i j z far order within);
  weights = same_weights w code.weights;
}
  where
    close : ℕ → ℕ → Bool
    close x y = nat_lt (distance n x y) d

    distinct : IsDistinct eqb ys
    distinct = IsDistinct-IsPermutation eqb eqb_comm xs ys moved
        (IsDistinct-from_apart eqb xs (λ i j z order within. ne_eqb (get_or xs i z) (get_or xs j z) (code.different i j z order within)))

    far : IsDistinct close ys
    far = IsDistinct-IsPermutation close (λ x y. ap (λ e. nat_lt e d) (distance_comm n x y)) xs ys moved
        (IsDistinct-from_apart close xs (λ i j z order within. le-ltb (distance n (get_or xs i z) (get_or xs j z)) d (code.apart i j z order within)))

    same_weights : (o : Option ℕ) → IfSome o (λ k. All (λ x. weight n x ≡ k) xs) → IfSome o (λ k. All (λ x. weight n x ≡ k) ys)
    same_weights None h = h
    same_weights (Some k) h = All-permutation (λ x. weight n x ≡ k) xs ys moved h

-- words are equal where their distance is below 1
pub equal_is_close : (n : ℕ) (words : List ℕ) → All (λ x. x < 2 ^ n) words → least_pair (λ x y. x == y) words ≡ least_pair (λ x y. nat_lt (distance n x y) 1) words
equal_is_close n words below = least_pair_same (λ x. x < 2 ^ n) (λ x y. x == y) (λ x y. nat_lt (distance n x y) 1) agree words below
  where
    agree : (x y : ℕ) → x < 2 ^ n → y < 2 ^ n → (x == y) ≡ nat_lt (distance n x y) 1
    agree x y p q = elim (cases_eq x y) [
      | inl same ↦
          let zero_is : distance n x y ≡ 0 = ap (λ z. distance n x z) (sym same) ∙ distance_same n x in
          eq-eqb x y same ∙ sym (lt-ltb (distance n x y) 1 (omega arith))
      | inr other ↦ ne_eqb x y other ∙ sym (le-ltb (distance n x y) 1 (distance-pos n x y p q other))
    ]

-- words with no close pair have no equal pair either
pub no_pair_fault : (n d : ℕ) (words : List ℕ) → 1 ≤ d → least_pair (λ x y. nat_lt (distance n x y) d) words ≡ None
    → first_of (repeated_fault words) (close_fault n d words) ≡ None
no_pair_fault n d words positive none =
    let far = NoPair-from (λ x y. nat_lt (distance n x y) d) words none in
    let different : least_pair (λ x y. x == y) words ≡ None = least_pair-none (λ x y. x == y) words (λ i j order within.
    ne_eqb (get_or words i 0) (get_or words j 0) (λ same.
    let zero_is : distance n (get_or words i 0) (get_or words j 0) ≡ 0 = ap (λ z. distance n (get_or words i 0) z) (sym same) ∙ distance_same n (get_or words i 0) in
    let apart = ltb-false (distance n (get_or words i 0) (get_or words j 0)) d (far i j order within) in
    absurd (omega arith))) in
    rw (different, none)

-- the least pair of distance below 1 is the least equal pair
pub repeated_pair_fault : (n d : ℕ) (words : List ℕ) (i j : ℕ) → All (λ x. x < 2 ^ n) words → least_pair (λ x y. nat_lt (distance n x y) 1) words ≡ Some (i, j)
    → first_of (repeated_fault words) (close_fault n d words) ≡ Some (Repeated i j)
repeated_pair_fault n d words i j below found = rw (equal_is_close n words below ∙ found)

-- and where there is none, the least close pair is the fault
pub close_pair_fault : (n d : ℕ) (words : List ℕ) (i j : ℕ) → All (λ x. x < 2 ^ n) words → least_pair (λ x y. nat_lt (distance n x y) 1) words ≡ None
    → least_pair (λ x y. nat_lt (distance n x y) d) words ≡ Some (i, j)
    → first_of (repeated_fault words) (close_fault n d words) ≡ Some (Close i j (distance n (get_or words i 0) (get_or words j 0)))
close_pair_fault n d words i j below different found = rw (equal_is_close n words below ∙ different, found)

-- the first word of another weight is the fault
pub weight_fault_at : (n w : ℕ) (words : List ℕ) (i : ℕ) → All (λ x. x < 2 ^ n) words → All (λ x. x < 2 ^ 32) words → i < length words
    → ((k : ℕ) → k < i → weight 32 (get_or words k 0) ≡ w) → weight 32 (get_or words i 0) ≢ w → weight_fault n (Some w) words ≡ Some (Weight i)
weight_fault_at n w words i below fits within before here =
    let first = position_or_len_is (λ x. not (weight n x == w)) words i 0 (le_of_lt within)
    (λ k h. ap not (eq-eqb (weight n (get_or words k 0)) w (same k (lt_trans h within) ∙ before k h)))
    (λ h. ap not (ne_eqb (weight n (get_or words i 0)) w (λ e. here (sym (same i within) ∙ e)))) in
    rw (first, lt-ltb i (length words) within)
  where
    same : (k : ℕ) → k < length words → weight n (get_or words k 0) ≡ weight 32 (get_or words k 0)
    same k h = weight_any_length n 32 (get_or words k 0) (below k 0 h) (fits k 0 h)

-- where each word has the weight, there is no such fault
pub weight_fault_none : (n w : ℕ) (words : List ℕ) → All (λ x. x < 2 ^ n) words → All (λ x. x < 2 ^ 32) words
    → ((k : ℕ) → k < length words → weight 32 (get_or words k 0) ≡ w) → weight_fault n (Some w) words ≡ None
weight_fault_none n w words below fits each =
    weight_none_from n (Some w) words (All-from_get_or (λ x. weight n x ≡ w) words 0
    (λ k h. weight_any_length n 32 (get_or words k 0) (below k 0 h) (fits k 0 h) ∙ each k h))

-- a fault of size is the first
pub fault_of_size : (e : Entry) (words : List ℕ) (f : CodeFault) → size_fault words ≡ Some f → code_fault e words ≡ Some f
unfolding code_fault
fault_of_size e words f is = ap (λ o. first_of o (first_of (weight_fault e.n e.w words) (first_of (repeated_fault words) (close_fault e.n e.d words)))) is

-- then comes one of weight
pub fault_of_weight : (e : Entry) (words : List ℕ) (f : CodeFault) → size_fault words ≡ None → weight_fault e.n e.w words ≡ Some f → code_fault e words ≡ Some f
unfolding code_fault
fault_of_weight e words f none is = ap₂ (λ o p. first_of o (first_of p (first_of (repeated_fault words) (close_fault e.n e.d words)))) none is

-- and then one of two words
pub fault_of_pairs : (e : Entry) (words : List ℕ) → size_fault words ≡ None → weight_fault e.n e.w words ≡ None
    → code_fault e words ≡ first_of (repeated_fault words) (close_fault e.n e.d words)
unfolding code_fault
fault_of_pairs e words none none_too = ap₂ (λ o p. first_of o (first_of p (first_of (repeated_fault words) (close_fault e.n e.d words)))) none none_too

-- the words of a code of an entry, in order, are a code as callers see it
pub sound_from_code : (e : Entry) (xs ys : List ℕ) → IsEntry e → 1 ≤ length xs → IsCodeOf e xs → IsPermutation xs ys → IsSorted nat_cmp ys
    → IsSoundCode (record { n = e.n; d = e.d; w = e.w; words = ys })
sound_from_code e xs ys entry some_is code moved sorted =
    let same_length = length_permutation xs ys moved in
    let code_is = IsCode-permutation e.n e.d e.w xs ys moved code in
    let limits = entry_limits e entry in
    let l0 = limits.length_from in
    let l1 = limits.length_to in
    let l2 = limits.distance_from in
    let l3 = limits.distance_to in
    record {
      length_in_range = (omega arith, omega arith);
      distance_in_range = (omega arith, omega arith);
      some = omega arith;
      ascending = IsStrictlyIncreasing-from_distinct ys (IsNonDecreasingBy-from_sort (λ x. x) ys sorted)
          (IsDistinct-from_apart eqb ys (λ i j z order within. ne_eqb (get_or ys i z) (get_or ys j z) (code_is.different i j z order within)));
      code = code_is;
    }

-- checked words in order are a code
pub sound_from_check : (e : Entry) (xs ys : List ℕ) → IsEntry e → All (λ x. x < 2 ^ e.n) xs → code_fault e xs ≡ None → IsPermutation xs ys → IsSorted nat_cmp ys
    → IsSoundCode (record { n = e.n; d = e.d; w = e.w; words = ys })
sound_from_check e xs ys entry below no_fault moved sorted =
    let whole = code_from_no_fault e xs below no_fault in
    sound_from_code e xs ys entry whole.0 whole.2 moved sorted

-- different words are distinct by the test of equality
distinct_from_different : (xs : List ℕ) → AllPairs (λ x y. x ≢ y) xs → IsDistinct eqb xs
distinct_from_different xs different = IsDistinct-from_apart eqb xs (λ i j z order within. ne_eqb (get_or xs i z) (get_or xs j z) (different i j z order within))

-- a code has at most 2 ^ n words
pub code_size-le : (n d : ℕ) (w : Option ℕ) (words : List ℕ) → IsCode n d w words → length words ≤ 2 ^ n
code_size-le n d w words code =
    length-le_from_distinct_below words (2 ^ n) (distinct_from_different words code.different) (λ q found.
    let place = Any-from_list_any (eqb q) words found in
    let same = eqb-true q place.1 place.4 in
    let below = code.lengths place.0 place.1 place.2 in
    let at = place.3 in
    omega arith)
