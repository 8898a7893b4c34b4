-- Words that differ in each of d groups of places are at distance d at least.
use Rattle.std.proofs.Common.{◌≡◌, ℕ, zero, suc, ◌+◌, ◌-◌, ◌*◌, ◌/◌, ◌%◌, ◌^◌, ◌<◌, ◌≤◌, ◌==◌, ◌&&◌, nat_lt, Bool, true, false, bit_xor, List, length, get_or, IsPermutation, ◌⊎◌, subst, sym, refl, ap, ap₂, ◌∙◌, inl, inr, arith, pow-suc, pow_pos}
use Rattle.std.specs.Prelude.{◌≢◌}
use Rattle.std.specs.List.{IsDistinct}
use Rattle.std.specs.Int.Bits.{xor_assoc, xor_self, xor_zero_l, xor_zero_r}
use Rattle.std.proofs.Math.Nat.{div-div-eq-div-mul}
use Rattle.std.proofs.Math.Arith.{mod-mul}
use Rattle.std.proofs.lemmas.Bool.{cases_eq, ltb-false, le-ltb, eq-eqb, ne_eqb, and_cases, eqb-false}
use Rattle.std.proofs.lemmas.Nat.{xor_mod, xor_shr, pow-add}
use Rattle.std.proofs.lemmas.List.Sorted.{IsPermutation-sym, IsPermutation-trans}
use Rattle.std.proofs.lemmas.Map.Keys.{apart_from_distinct, IsDistinct-from_apart, IsDistinct-IsPermutation}
use Rattle.ct_words.specs.Word.{weight, distance}
use Rattle.ct_words.proofs.WordLemmas.{IsSum-bit_xor, distance-is_weight, distance_comm, weight-suc}
use Rattle.ct_codes.specs.Inside.Groups.{group_digits, AreFarWhereSame}

-- the ones among the last digits
abbrev ones : ℕ → ℕ → ℕ
ones zero z = 0
ones (suc w) z = z % 2 + ones w (z / 2)

-- and those before them
weight-split : (w m z : ℕ) → weight (w + m) z ≡ ones w z + weight m (z / 2 ^ w)
weight-split zero m z =
    let count : 0 + m ≡ m = omega arith in
    let whole : z ≡ z / 2 ^ 0 = omega arith in
    let sum : weight m z ≡ 0 + weight m z = omega arith in
    ap (λ n. weight n z) count ∙ sum ∙ ap (λ q. 0 + weight m q) whole
weight-split (suc w) m z =
    let double : 2 ^ suc w ≡ 2 * 2 ^ w = omega (arith, pow-suc 2 w) in
    let halves : z / 2 / 2 ^ w ≡ z / 2 ^ suc w = div-div-eq-div-mul z 2 (2 ^ w) ∙ ap (λ q. z / q) (sym double) in
    let next : suc w + m ≡ suc (w + m) = omega arith in
    ap (λ n. weight n z) next ∙ weight-suc (w + m) z
    ∙ ap (λ q. z % 2 + q) (weight-split w m (z / 2) ∙ ap (λ q. ones w (z / 2) + weight m q) halves)
    ∙ regrouped (z % 2) (ones w (z / 2)) (weight m (z / 2 ^ suc w))
  where
    regrouped : (a b c : ℕ) → a + (b + c) ≡ a + b + c
    regrouped a b c = omega arith

-- there is a one where the digits are not 0
ones-some : (w z : ℕ) → z % 2 ^ w ≢ 0 → 1 ≤ ones w z
ones-some zero z some = absurd (some (omega arith))
ones-some (suc w) z some = elim (cases_eq (z / 2 % 2 ^ w) 0) [
  | inl none ↦
      let parts : z % (2 ^ w * 2) ≡ z / 2 % 2 ^ w * 2 + z % 2 = mod-mul z (pow_pos w) (omega arith) in
      let double : 2 ^ suc w ≡ 2 ^ w * 2 = omega (arith, pow-suc 2 w) in
      let last : z % 2 ^ suc w ≡ z % 2 = ap (λ q. z % q) double ∙ parts ∙ ap (λ q. q * 2 + z % 2) none ∙ no_more (z % 2) in
      let odd : z % 2 ≢ 0 = λ even. some (last ∙ even) in
      omega (arith, odd)
  | inr more ↦ let deeper = ones-some w (z / 2) more in omega arith
]
  where
    no_more : (a : ℕ) → 0 * 2 + a ≡ a
    no_more a = omega arith

-- where the digits in each of d groups are not 0, there are d ones at least
weight-groups : (width d n z : ℕ) → d * width ≤ n → ((g : ℕ) → g < d → group_digits (g * width) width z ≢ 0) → d ≤ weight n z
weight-groups width zero n z room some = omega arith
weight-groups width (suc d) n z room some =
    let first : z % 2 ^ width ≢ 0 = λ none. some 0 (omega arith) (ap (λ q. q % 2 ^ width) start ∙ none) in
    let low = ones-some width z first in
    let more : d * width ≤ n - width = omega arith in
    let high = weight-groups width d (n - width) (z / 2 ^ width) more
    (λ g within none. some (suc g) (omega arith) (ap (λ q. q % 2 ^ width) (sym (moved g)) ∙ none)) in
    let whole : width + (n - width) ≡ n = omega arith in
    let split = ap (λ q. weight q z) (sym whole) ∙ weight-split width (n - width) z in
    omega (arith, split)
  where
    start : z / 2 ^ (0 * width) ≡ z
    start =
        let none : 0 * width ≡ 0 = omega arith in
        let whole : z / 2 ^ 0 ≡ z = omega arith in
        ap (λ q. z / 2 ^ q) none ∙ whole

    moved : (g : ℕ) → z / 2 ^ width / 2 ^ (g * width) ≡ z / 2 ^ (suc g * width)
    moved g =
        let sum : width + g * width ≡ suc g * width = omega arith in
        div-div-eq-div-mul z (2 ^ width) (2 ^ (g * width)) ∙ ap (λ q. z / q) (sym (pow-add 2 width (g * width)) ∙ ap (λ q. 2 ^ q) sum)

-- digits whose sum is 0 are the same
same_from_sum : (a b : ℕ) → bit_xor a b ≡ 0 → a ≡ b
same_from_sum a b none =
    sym (xor_zero_r a) ∙ ap (bit_xor a) (sym (xor_self b)) ∙ sym (xor_assoc a b b) ∙ ap (λ q. bit_xor q b) none ∙ xor_zero_l b

same_digits : (shift width x y : ℕ) → group_digits shift width (bit_xor x y) ≡ 0 → group_digits shift width x ≡ group_digits shift width y
same_digits shift width x y none =
    same_from_sum (group_digits shift width x) (group_digits shift width y)
    (sym (ap (λ q. q % 2 ^ width) (xor_shr x y shift) ∙ xor_mod (x / 2 ^ shift) (y / 2 ^ shift) width) ∙ none)

-- the digits in one of the groups are 0, or in none
none_or_one : (width z d : ℕ) → ((g : ℕ) × (g < d) × (group_digits (g * width) width z ≡ 0)) ⊎ ((g : ℕ) → g < d → group_digits (g * width) width z ≢ 0)
none_or_one width z zero = inr (λ g within. absurd (omega arith))
none_or_one width z (suc d) = go (none_or_one width z d) (cases_eq (group_digits (d * width) width z) 0)
  where
    go : ((g : ℕ) × (g < d) × (group_digits (g * width) width z ≡ 0)) ⊎ ((g : ℕ) → g < d → group_digits (g * width) width z ≢ 0)
        → (group_digits (d * width) width z ≡ 0) ⊎ (group_digits (d * width) width z ≢ 0)
        → ((g : ℕ) × (g < suc d) × (group_digits (g * width) width z ≡ 0)) ⊎ ((g : ℕ) → g < suc d → group_digits (g * width) width z ≢ 0)
    go (inl found) last = let within = found.1 in inl (found.0, omega arith, found.2)
    go (inr each) (inl here) = inl (d, omega arith, here)
    go (inr each) (inr some) = inr (λ g within. elim (cases_eq g d) [
      | inl same ↦ subst (λ q. group_digits (q * width) width z ≢ 0) (sym same) some
      | inr other ↦ each g (omega arith)
    ])

-- two words are far where they are far if they have the same digits in one of d groups
far_by_groups : (width d x y : ℕ) → d * width ≤ 32 → x < 2 ^ 32 → y < 2 ^ 32
    → ((g : ℕ) → g < d → group_digits (g * width) width x ≡ group_digits (g * width) width y → d ≤ distance 32 x y) → d ≤ distance 32 x y
far_by_groups width d x y room x_below y_below far = elim (none_or_one width (bit_xor x y) d) [
  | inl found ↦ far found.0 found.1 (same_digits (found.0 * width) width x y found.2)
  | inr each ↦
      let many = weight-groups width d 32 (bit_xor x y) room each in
      let same = distance-is_weight 32 x y (bit_xor x y) (IsSum-bit_xor 32 x y x_below y_below) in
      omega arith
]

-- and so are all
pub all_far_by_groups : (width d : ℕ) (words : List ℕ) → d * width ≤ 32 → ((k : ℕ) → k < length words → get_or words k 0 < 2 ^ 32)
    → ((g : ℕ) → g < d → AreFarWhereSame (g * width) width d words)
    → (i j : ℕ) → i < j → j < length words → d ≤ distance 32 (get_or words i 0) (get_or words j 0)
all_far_by_groups width d words room below far i j order within =
    far_by_groups width d (get_or words i 0) (get_or words j 0) room (below i (omega arith)) (below j within) (λ g few. far g few i j 0 order within)

-- words in another order
pub far_where_same-permutation : (shift width d : ℕ) (xs ys : List ℕ) → IsPermutation xs ys → AreFarWhereSame shift width d ys
    → AreFarWhereSame shift width d xs
far_where_same-permutation shift width d xs ys moved far = λ i j z order within same.
    elim (and_cases (group_digits shift width (get_or xs i z) == group_digits shift width (get_or xs j z)) (nat_lt (distance 32 (get_or xs i z) (get_or xs j z)) d)
    (apart_from_distinct close xs i j z distinct order within)) [
      | inl other ↦ absurd (eqb-false (group_digits shift width (get_or xs i z)) (group_digits shift width (get_or xs j z)) other same)
      | inr apart ↦ ltb-false (distance 32 (get_or xs i z) (get_or xs j z)) d apart
    ]
  where
    close : ℕ → ℕ → Bool
    close x y = (group_digits shift width x == group_digits shift width y) && nat_lt (distance 32 x y) d

    same_comm : (a b : ℕ) → (a == b) ≡ (b == a)
    same_comm a b = elim (cases_eq a b) [
      | inl e ↦ eq-eqb a b e ∙ sym (eq-eqb b a (sym e))
      | inr e ↦ ne_eqb a b e ∙ sym (ne_eqb b a (λ q. e (sym q)))
    ]

    close_comm : (x y : ℕ) → close x y ≡ close y x
    close_comm x y =
        ap₂ (λ (p q : Bool). p && q) (same_comm (group_digits shift width x) (group_digits shift width y)) (ap (λ e. nat_lt e d) (distance_comm 32 x y))

    apart : (i j : ℕ) (z : ℕ) → i < j → j < length ys → close (get_or ys i z) (get_or ys j z) ≡ false
    apart i j z order within = elim (cases_eq (group_digits shift width (get_or ys i z)) (group_digits shift width (get_or ys j z))) [
      | inl same ↦ rw (le-ltb (distance 32 (get_or ys i z) (get_or ys j z)) d (far i j z order within same)) (and_false (group_digits shift width (get_or ys i z) == group_digits shift width (get_or ys j z)))
      | inr other ↦ rw (ne_eqb (group_digits shift width (get_or ys i z)) (group_digits shift width (get_or ys j z)) other) refl
    ]
      where
        and_false : (b : Bool) → (b && false) ≡ false
        and_false true = refl
        and_false false = refl

    distinct : IsDistinct close xs
    distinct = IsDistinct-IsPermutation close close_comm ys xs (IsPermutation-sym xs ys moved) (IsDistinct-from_apart close ys apart)

-- one group more, by which the words were sorted
pub groups-next : (width d : ℕ) (words old new : List ℕ) (group : ℕ) → IsPermutation words old → IsPermutation old new
    → AreFarWhereSame (group * width) width d new → ((g : ℕ) → g < group → AreFarWhereSame (g * width) width d words)
    → (g : ℕ) → g < group + 1 → AreFarWhereSame (g * width) width d words
groups-next width d words old new group moved sorted last before g few = elim (cases_eq g group) [
  | inl same ↦
      subst (λ k. AreFarWhereSame (k * width) width d words) (sym same)
      (far_where_same-permutation (group * width) width d words new (IsPermutation-trans words old new moved sorted) last)
  | inr other ↦ before g (omega arith)
]
