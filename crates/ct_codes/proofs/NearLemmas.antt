-- The first word that is close to one: eight at a time, and what comes before a place and after it.
use Rattle.std.proofs.Common.{◌≡◌, ℕ, ◌+◌, ◌-◌, ◌<◌, ◌≤◌, ◌^◌, ◌%◌, Bool, true, false, nat_lt, List, [], ◌∷◌, length, map, drop, get_or, position, Some, None, option_map, bit_xor, count_ones, sym, refl, ap, ap₂, subst, ◌∙◌, inl, inr, arith}
use Rattle.std.specs.Prelude.{All}
use lib.Dec.{ltb}
use lib.Lanes.{mask_l, top, zip2}
use lib.ListN.{replicate}
use mathlib.Core.Bool.{cond}
use mir.Syntax.{w32}
use mir.Val.{bits, hbits}
use Rattle.std.proofs.lemmas.Simd.{zip2_splat, map-map, bitmask_splat}
use Rattle.std.proofs.lemmas.List.{length-map}
use Rattle.std.proofs.lemmas.Bool.{cases_lt, le-ltb, lt-ltb}
use Rattle.std.proofs.lemmas.List.{get_or-drop, length-drop}
use Rattle.std.proofs.lemmas.List.Elements.{All-head, All-tail}
use Rattle.std.proofs.lemmas.List.Sums.{position_or_len_is}
use Rattle.ct_words.specs.Word.{distance}
use Rattle.ct_words.proofs.WordLemmas.{IsSum-bit_xor, distance-is_weight, weight-count_ones, distance_comm}
use Rattle.ct_words.proofs.PairLemmas.{position_cases}

-- how many ones two words' sum has is their distance
ones_of_sum : (word x : ℕ) → word < 2 ^ 32 → x < 2 ^ 32 → count_ones (bit_xor x word) ≡ distance 32 word x
ones_of_sum word x word_below below =
    let sum = IsSum-bit_xor 32 x word below word_below in
    weight-count_ones 32 (bit_xor x word) sum.word ∙ sym (distance-is_weight 32 x word (bit_xor x word) sum) ∙ distance_comm 32 x word

-- which words of a list are close is told by the ones of the sums
pub close_by_ones : (word d : ℕ) (xs : List ℕ) → word < 2 ^ 32 → All (λ x. x < 2 ^ 32) xs
    → map (λ x. nat_lt (count_ones (bit_xor x word)) d) xs ≡ map (λ x. nat_lt (distance 32 word x) d) xs
close_by_ones word d [] word_below below = refl
close_by_ones word d (x ∷ xs) word_below below =
    ap₂ (λ (b : Bool) (bs : List Bool). b ∷ bs) (ap (λ t. nat_lt t d) (ones_of_sum word x word_below (All-head (λ (z : ℕ). z < 2 ^ 32) x xs below)))
    (close_by_ones word d xs word_below (All-tail (λ (z : ℕ). z < 2 ^ 32) x xs below))

-- the lanes of eight words whose distance is below d, as a mask
pub close_mask : (word d : ℕ) (v : List ℕ) → length v ≡ 8 → word < 2 ^ 32 → All (λ x. x < 2 ^ 32) v
    → mask_l (map (top (hbits w32)) (zip2 (λ a b. cond (ltb a b) (2 ^ bits w32 - 1) 0) (map count_ones (zip2 bit_xor v (replicate 8 word))) (replicate 8 d))) % 2 ^ 64
    ≡ mask_l (map (λ x. nat_lt (distance 32 word x) d) v)
close_mask word d v long word_below below =
    let ones = ap (map count_ones) (zip2_splat bit_xor v 8 word long) ∙ map-map count_ones (λ x. bit_xor x word) v in
    let sums = map (λ x. count_ones (bit_xor x word)) v in
    let all : length sums ≡ 8 = length-map v (λ (x : ℕ). count_ones (bit_xor x word)) ∙ long in
    rw ones (bitmask_splat w32 ltb sums 8 d all (omega arith))
    ∙ ap mask_l (map-map (λ x. ltb x d) (λ x. count_ones (bit_xor x word)) v ∙ close_by_ones word d v word_below below)

-- a place that passes, and before which none does, is the first
pub first_is : (p : ℕ → Bool) (xs : List ℕ) (i : ℕ) → i < length xs → ((k : ℕ) → k < i → p (get_or xs k 0) ≡ false) → p (get_or xs i 0) ≡ true
    → position p xs ≡ Some i
first_is p xs i within before passes =
    rw (position_or_len_is p xs i 0 (omega arith) before (λ h. passes), lt-ltb i (length xs) within) refl

-- where no item passes there is no first
pub none_is : (p : ℕ → Bool) (xs : List ℕ) → ((k : ℕ) → k < length xs → p (get_or xs k 0) ≡ false) → position p xs ≡ None
none_is p xs fails =
    rw (position_or_len_is p xs (length xs) 0 (omega arith) fails (λ h. absurd (omega arith)), le-ltb (length xs) (length xs) (omega arith)) refl

-- where the items before place i fail, the first that passes is that of the rest
pub position-after : (p : ℕ → Bool) (xs : List ℕ) (i : ℕ) → i ≤ length xs → ((k : ℕ) → k < i → p (get_or xs k 0) ≡ false)
    → option_map (λ j. i + j) (position p (drop i xs)) ≡ position p xs
position-after p xs i within fails =
    let long = length-drop i xs in
    elim (position_cases p (drop i xs)) [
      | inl first ↦
          let inside = first.2.within in
          rw first.1 (sym (first_is p xs (i + first.0) (omega arith) (before first.0 first.2.before)
          (subst (λ z. p z ≡ true) (get_or-drop i xs first.0 0) first.2.passes)))
      | inr no_first ↦
          rw no_first.0 (sym (none_is p xs (λ k inside. before (length xs - i) (λ j sooner. no_first.1 j (omega arith)) k (omega arith))))
    ]
  where
    before : (m : ℕ) → ((j : ℕ) → j < m → p (get_or (drop i xs) j 0) ≡ false) → (k : ℕ) → k < i + m → p (get_or xs k 0) ≡ false
    before m rest k sooner = elim (cases_lt k i) [
      | inl early ↦ fails k early
      | inr late ↦
          let at : i + (k - i) ≡ k = omega arith in
          subst (λ z. p (get_or xs z 0) ≡ false) at (subst (λ z. p z ≡ false) (get_or-drop i xs (k - i) 0) (rest (k - i) (omega arith)))
    ]
