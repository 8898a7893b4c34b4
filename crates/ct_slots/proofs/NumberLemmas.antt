-- Each slot of the table has a number of its own, and each number is that of one.
use Rattle.std.proofs.Common.{◌≡◌, ℕ, zero, suc, ◌+◌, ◌-◌, ◌*◌, ◌/◌, ◌%◌, ◌<◌, ◌≤◌, Option, Some, None, ap, subst, sym, ◌∙◌, arith, inl, inr}
use Rattle.std.proofs.lemmas.Bool.Decides.{nat_tests}
use Rattle.std.proofs.lemmas.Nat.{div-mul-add, mod-mul-add}
use Rattle.std.proofs.lemmas.Bool.{cases_lt, cases_order}
use Rattle.std.proofs.Math.Nat.{div-add-mod, mod-lt, lt_of_mul-lt-mul_left, mul-le-mul_left}
use mathlib.Core.Logic.{◌⊎◌}
use Rattle.ct_words.specs.declared.limits.TheConstants.{MAX_N}
use Rattle.ct_words.specs.declared.claim.Side.TheVariants.{Lower, Upper}
use Rattle.ct_words.specs.declared.entry.Entry.{Entry}
use Rattle.ct_words.specs.Entry.{IsEntry, unrestricted, constant_weight}
use Rattle.ct_words.proofs.EntryLemmas.{WeightFits, entry_limits, entry_from_limits}
use Rattle.ct_rule_parts.specs.Slot.{Slot}
use Rattle.ct_slots.specs.Number.{distances, even_distances, count_in_length, entries_to, entry_in, side_size, number_in_length, entry_number, slot_number}

-- the entries up to a length and those of the next
pub entries_to-suc : (n : ℕ) → entries_to (n + 1) ≡ entries_to n + count_in_length (n + 1)
entries_to-suc n = omega arith

pub entries_to-length : (n : ℕ) → 1 ≤ n → entries_to n ≡ entries_to (n - 1) + count_in_length n
entries_to-length n from =
    let same : n - 1 + 1 ≡ n = omega arith in
    subst (λ m. entries_to m ≡ entries_to (n - 1) + count_in_length m) same (entries_to-suc (n - 1))

entries_to-add : (n more : ℕ) → entries_to n ≤ entries_to (n + more)
entries_to-add n zero = omega arith
entries_to-add n (suc more) =
    let before = entries_to-add n more in
    let next = entries_to-suc (n + more) in
    let same : n + more + 1 ≡ n + suc more = omega arith in
    subst (λ m. entries_to n ≤ entries_to m) same (omega arith)

pub entries_to-monotone : (n m : ℕ) → n ≤ m → entries_to n ≤ entries_to m
entries_to-monotone n m h =
    let same : n + (m - n) ≡ m = omega arith in
    subst (λ k. entries_to n ≤ entries_to k) same (entries_to-add n (m - n))

pub entries_to-zero : entries_to 0 ≡ 0
entries_to-zero = omega arith

-- the entry of a number within its length is of the table, and has the number
in_length_plain : (n place : ℕ) → place < distances → entry_in n place ≡ unrestricted n (place + 3)
in_length_plain n place below = grind (arith, nat_tests)

in_length_weight : (n place : ℕ) → distances ≤ place
    → entry_in n place ≡ constant_weight n (2 * ((place - distances) / (n + 1)) + 4) ((place - distances) % (n + 1))
in_length_weight n place from = grind (arith, nat_tests)

-- the parts of a number
less_part : (n k q r : ℕ) → (n + 1) * q + r ≡ k → k < even_distances * (n + 1) → q < even_distances
less_part n k q r parts below = lt_of_mul-lt-mul_left (n + 1) (omega arith)

pub entry_in-IsEntry : (n place : ℕ) → 1 ≤ n → n ≤ MAX_N → place < count_in_length n → IsEntry (entry_in n place)
entry_in-IsEntry n place from to below = go (cases_lt place distances)
  where
    go : ((place < distances) ⊎ (distances ≤ place)) → IsEntry (entry_in n place)
    go (inl plain) =
        subst IsEntry (sym (in_length_plain n place plain))
        (entry_from_limits (unrestricted n (place + 3)) from to (omega arith) (omega arith) tt)
    go (inr weight) =
        let k = place - distances in
        let q = k / (n + 1) in
        let last : k % (n + 1) < n + 1 = mod-lt k (omega arith) in
        let less = less_part n k q (k % (n + 1)) (div-add-mod k (n + 1)) (omega arith) in
        subst IsEntry (sym (in_length_weight n place weight))
        (entry_from_limits (constant_weight n (2 * q + 4) (k % (n + 1)))
        from to (omega arith) (omega arith) (omega arith, omega arith, omega arith))

-- its number is the one from which it was made
pub number-entry_in : (n place : ℕ) → number_in_length (entry_in n place) (entry_in n place).w ≡ place
number-entry_in n place = go (cases_lt place distances)
  where
    go : ((place < distances) ⊎ (distances ≤ place)) → number_in_length (entry_in n place) (entry_in n place).w ≡ place
    go (inl plain) =
        subst (λ (e : Entry). number_in_length e e.w ≡ place) (sym (in_length_plain n place plain)) (omega arith)
    go (inr weight) =
        let k = place - distances in
        let q = k / (n + 1) in
        let half : (2 * q + 4) / 2 - 2 ≡ q = omega arith in
        let product = ap (λ z. z * (n + 1)) half in
        let parts = div-add-mod k (n + 1) in
        subst (λ (e : Entry). number_in_length e e.w ≡ place) (sym (in_length_weight n place weight)) (omega arith)

-- and the other way round
in_length_again : (n d : ℕ) (w : Option ℕ) → 3 ≤ d → d ≤ MAX_N → WeightFits (record { n = n; d = d; w = w }) w
    → entry_in n (number_in_length (record { n = n; d = d; w = w }) w) ≡ record { n = n; d = d; w = w }
in_length_again n d None from to fits =
    let same : d - 3 + 3 ≡ d = omega arith in
    in_length_plain n (d - 3) (omega arith) ∙ ap (unrestricted n) same
in_length_again n d (Some w) from to fits =
    let q = d / 2 - 2 in
    let even = fits.0 in
    let far = fits.1 in
    let light = fits.2 in
    let rest : distances + q * (n + 1) + w - distances ≡ q * (n + 1) + w = omega arith in
    let quotient = ap (λ z. z / (n + 1)) rest ∙ div-mul-add q (n + 1) w (omega arith) in
    let remainder = ap (λ z. z % (n + 1)) rest ∙ mod-mul-add q (n + 1) w (omega arith) in
    let double : 2 * q + 4 ≡ d = omega arith in
    in_length_weight n (distances + q * (n + 1) + w) (omega arith)
    ∙ ap (λ z. constant_weight n (2 * z + 4) ((distances + q * (n + 1) + w - distances) % (n + 1))) quotient
    ∙ ap (λ z. constant_weight n (2 * q + 4) z) remainder ∙ ap (λ z. constant_weight n z w) double

pub entry_in-number : (e : Entry) → IsEntry e → entry_in e.n (number_in_length e e.w) ≡ e
entry_in-number e h =
    let limits = entry_limits e h in
    in_length_again e.n e.d e.w limits.distance_from limits.distance_to limits.weight

-- the numbers of the entries of a length
in_length-bound : (n d : ℕ) (w : Option ℕ) → 3 ≤ d → d ≤ MAX_N → WeightFits (record { n = n; d = d; w = w }) w
    → number_in_length (record { n = n; d = d; w = w }) w < count_in_length n
in_length-bound n d None from to fits = omega arith
in_length-bound n d (Some w) from to fits =
    let q = d / 2 - 2 in
    let few : q ≤ even_distances - 1 = omega arith in
    let most = mul-le-mul_left (n + 1) few in
    let light = fits.2 in
    omega arith

pub number_in_length-bound : (e : Entry) → IsEntry e → number_in_length e e.w < count_in_length e.n
number_in_length-bound e h =
    let limits = entry_limits e h in
    in_length-bound e.n e.d e.w limits.distance_from limits.distance_to limits.weight

-- and those of the table
pub entry_number-below : (e : Entry) → IsEntry e → entry_number e < entries_to e.n
entry_number-below e h =
    let limits = entry_limits e h in
    let next = entries_to-length e.n limits.length_from in
    let place = number_in_length-bound e h in
    omega arith

pub entry_number-bound : (e : Entry) → IsEntry e → entry_number e < side_size
entry_number-bound e h =
    let limits = entry_limits e h in
    let below = entry_number-below e h in
    let all = entries_to-monotone e.n MAX_N limits.length_to in
    omega arith

-- an entry of a smaller length has a smaller number
shorter_first : (e f : Entry) → IsEntry e → IsEntry f → e.n < f.n → entry_number e < entry_number f
shorter_first e f h k less =
    let below = entry_number-below e h in
    let before = entries_to-monotone e.n (f.n - 1) (omega arith) in
    omega arith

same_length : (e f : Entry) → IsEntry e → IsEntry f → entry_number e ≡ entry_number f → e.n ≡ f.n
same_length e f h k same = elim (cases_order e.n f.n) [
  | inl one ↦ one
  | inr (inl less) ↦ (let before = shorter_first e f h k less in absurd (omega arith))
  | inr (inr more) ↦ (let before = shorter_first f e k h more in absurd (omega arith))
]

-- entries of one number are one
pub entry_number-injective : (e f : Entry) → IsEntry e → IsEntry f → entry_number e ≡ entry_number f → e ≡ f
entry_number-injective e f h k same =
    let lengths = same_length e f h k same in
    let before = ap (λ n. entries_to (n - 1)) lengths in
    let places : number_in_length e e.w ≡ number_in_length f f.w = omega arith in
    sym (entry_in-number e h) ∙ ap (λ n. entry_in n (number_in_length e e.w)) lengths ∙ ap (entry_in f.n) places
    ∙ entry_in-number f k

-- the number of the entry at a place among those of its length
pub entry_number-entry_in : (n place : ℕ) → entry_number (entry_in n place) ≡ entries_to (n - 1) + place
entry_number-entry_in n place =
    let place_is = number-entry_in n place in
    let length_is = ap (λ k. entries_to (k - 1)) (length_of_entry_in n place) in
    omega arith
  where
    length_of_entry_in : (n place : ℕ) → (entry_in n place).n ≡ n
    length_of_entry_in n place = elim (cases_lt place distances) [
      | inl plain ↦ ap (λ (e : Entry). e.n) (in_length_plain n place plain)
      | inr weight ↦ ap (λ (e : Entry). e.n) (in_length_weight n place weight)
    ]

-- each number is that of an entry
record IsAtLength (k m n : ℕ) : Type 0 where
  from : 1 ≤ n
  to : n ≤ m
  at_least : entries_to (n - 1) ≤ k
  below : k < entries_to n

length_at : (k m : ℕ) → k < entries_to m → (n : ℕ) × IsAtLength k m n
length_at k zero below = absurd (omega arith)
length_at k (suc m) below = elim (cases_lt k (entries_to m)) [
  | inl less ↦
      let found = length_at k m less in
      let to = found.1.to in
      (found.0, record { from = found.1.from; to = omega arith; at_least = found.1.at_least; below = found.1.below })
  | inr more ↦
      let same : suc m - 1 ≡ m = omega arith in
      (suc m, record { from = omega arith; to = omega arith; at_least = subst (λ z. entries_to z ≤ k) (sym same) more; below = below })
]

pub entry_at : (k : ℕ) → k < side_size → (e : Entry) × IsEntry e × (entry_number e ≡ k)
entry_at k below = go (length_at k MAX_N below)
  where
    go : ((n : ℕ) × IsAtLength k MAX_N n) → (e : Entry) × IsEntry e × (entry_number e ≡ k)
    go (n, is) =
        let place = k - entries_to (n - 1) in
        let next = entries_to-length n is.from in
        let first = is.at_least in
        let last = is.below in
        let number = entry_number-entry_in n place in
        (entry_in n place, entry_in-IsEntry n place is.from is.to (omega arith), omega arith)

-- the numbers of the slots
pub slot_number-bound : (s : Slot) → IsEntry s.1 → slot_number s < 2 * side_size
unfolding slot_number
slot_number-bound (Lower, e) h = let entry = entry_number-bound e h in omega arith
slot_number-bound (Upper, e) h = let entry = entry_number-bound e h in omega arith

pub lower_number-bound : (e : Entry) → IsEntry e → slot_number (Lower, e) < side_size
unfolding slot_number
lower_number-bound e h = let entry = entry_number-bound e h in omega arith

pub slot_number-injective : (s t : Slot) → IsEntry s.1 → IsEntry t.1 → slot_number s ≡ slot_number t → s ≡ t
unfolding slot_number
slot_number-injective (Lower, e) (Lower, f) h k same =
    ap (λ (g : Entry). (Lower, g)) (entry_number-injective e f h k (omega arith))
slot_number-injective (Upper, e) (Upper, f) h k same =
    ap (λ (g : Entry). (Upper, g)) (entry_number-injective e f h k (omega arith))
slot_number-injective (Lower, e) (Upper, f) h k same = let first = entry_number-bound e h in absurd (omega arith)
slot_number-injective (Upper, e) (Lower, f) h k same = let first = entry_number-bound f k in absurd (omega arith)

pub slot_at : (k : ℕ) → k < 2 * side_size → (s : Slot) × IsEntry s.1 × (slot_number s ≡ k)
unfolding slot_number
slot_at k below = elim (cases_lt k side_size) [
  | inl first ↦
      let found = entry_at k first in
      let number = found.2 in
      ((Lower, found.0), found.1, omega arith)
  | inr last ↦
      let found = entry_at (k - side_size) (omega arith) in
      let number = found.2 in
      ((Upper, found.0), found.1, omega arith)
]
