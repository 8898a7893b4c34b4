-- By how much all bounds can still improve gets less with a better bound.
use Rattle.std.proofs.Common.{◌≡◌, ℕ, ◌+◌, ◌-◌, ◌*◌, ◌<◌, ◌≤◌, List, length, take, drop, slice_index, slice_set, sum_by, ap, sym, subst, arith, length-take, length-drop}
use Rattle.std.proofs.Math.Seq.{take-set-lt}
use Rattle.std.proofs.lemmas.List.{get_or-take, get_or-drop, take-set-le, drop-set-lt, drop-set-add}
use Rattle.std.proofs.lemmas.List.Sums.{sum_by-set}
use Rattle.ct_words.specs.declared.limits.TheConstants.{MAX_BOUND}
use Rattle.ct_words.specs.declared.claim.Side.TheVariants.{Lower, Upper}
use Rattle.ct_words.specs.declared.entry.Entry.{Entry}
use Rattle.ct_words.specs.Entry.{IsEntry}
use Rattle.ct_rule_parts.specs.Slot.{Slot, IsBetter}
use Rattle.ct_table.specs.Inside.Turn.{slack}
use Rattle.ct_slots.specs.Number.{bound_of, side_size, slot_number}
use Rattle.ct_slots.proofs.NumberLemmas.{lower_number-bound, slot_number-bound}

-- a smaller term makes a smaller sum
sum_by-smaller : (f : ℕ → ℕ) (xs : List ℕ) (k v : ℕ) → k < length xs → f v < f (slice_index xs k)
    → sum_by f (slice_set xs k v) < sum_by f xs
sum_by-smaller f xs k v inside less = let sums = sum_by-set f xs k v 0 inside in omega arith

-- what is left to improve, of the first n bounds up to MAX_BOUND, of the others down to 0
abbrev left : ℕ → List ℕ → ℕ
left n bounds = sum_by (λ v. MAX_BOUND - v) (take n bounds) + sum_by (λ v. v) (drop n bounds)

left-first : (n : ℕ) (bounds : List ℕ) (k v : ℕ) → k < n → k < length bounds → slice_index bounds k < v → v ≤ MAX_BOUND
    → left n (slice_set bounds k v) < left n bounds
left-first n bounds k v first within better limit =
    let front = ap (sum_by (λ u. MAX_BOUND - u)) (take-set-lt n bounds k v first) in
    let back = ap (sum_by (λ u. u)) (drop-set-lt n bounds k v first) in
    let here = get_or-take n bounds k 0 first in
    let inside : k < length (take n bounds) = omega (arith, length-take n bounds) in
    let less = sum_by-smaller (λ u. MAX_BOUND - u) (take n bounds) k v inside (omega arith) in
    omega arith

left-other : (n : ℕ) (bounds : List ℕ) (j v : ℕ) → n + j < length bounds → v < slice_index bounds (n + j)
    → left n (slice_set bounds (n + j) v) < left n bounds
left-other n bounds j v within better =
    let front = ap (sum_by (λ u. MAX_BOUND - u)) (take-set-le n bounds (n + j) v (omega arith)) in
    let back = ap (sum_by (λ u. u)) (drop-set-add n bounds j v) in
    let here = get_or-drop n bounds j 0 in
    let inside : j < length (drop n bounds) = omega (arith, length-drop n bounds) in
    let less = sum_by-smaller (λ u. u) (drop n bounds) j v inside (omega arith) in
    omega arith

-- the numbers of the upper sides come last
upper_number-from : (e : Entry) → side_size ≤ slot_number (Upper, e)
unfolding slot_number
upper_number-from e = omega arith

-- a better bound of a slot of the table leaves less
pub slack-set : (bounds : List ℕ) (s : Slot) (v : ℕ) → length bounds ≡ 2 * side_size → IsEntry s.1 → v ≤ MAX_BOUND
    → IsBetter s.0 v (bound_of bounds s) → slack (slice_set bounds (slot_number s) v) < slack bounds
slack-set bounds (Lower, e) v count entry limit better =
    let within = slot_number-bound (Lower, e) entry in
    left-first side_size bounds (slot_number (Lower, e)) v (lower_number-bound e entry) (omega arith) better limit
slack-set bounds (Upper, e) v count entry limit better =
    let within = slot_number-bound (Upper, e) entry in
    let from = upper_number-from e in
    let place = slot_number (Upper, e) - side_size in
    let same : side_size + place ≡ slot_number (Upper, e) = omega arith in
    subst (λ k. slack (slice_set bounds k v) < slack bounds) same
    (left-other side_size bounds place v (omega arith) (subst (λ k. v < slice_index bounds k) (sym same) better))
