-- The marking of all slots that are not settled goes through the distances, the lengths and the weights of the entries.
use Rattle.std.proofs.Common.{◌≡◌, ℕ, ◌+◌, ◌-◌, ◌*◌, ◌/◌, ◌%◌, ◌<◌, ◌≤◌, List, Option, Some, None, sym, subst, inl, inr, arith}
use Rattle.std.proofs.lemmas.Bool.{cases_eq}
use Rattle.ct_words.specs.declared.limits.TheConstants.{MAX_N}
use Rattle.ct_words.specs.declared.claim.Side.{Side}
use Rattle.ct_words.specs.declared.claim.Side.TheVariants.{Lower, Upper}
use Rattle.ct_words.specs.declared.entry.Entry.{Entry}
use Rattle.ct_words.specs.Entry.{IsEntry}
use Rattle.ct_words.proofs.EntryLemmas.{entry_limits}
use Rattle.ct_rule_parts.specs.Slot.{Slot}
use Rattle.ct_slots.specs.Number.{distances, even_distances}
use Rattle.ct_slots.specs.Worklist.{WorkValue, IsMarked, IsMarkedOrSettled}
use Rattle.ct_slots.specs.Inside.Marked.{distance_at, even_distance_at, AreMarkedWithWeight, AreMarkedWithoutWeight}

-- what held of the numbers below k still does in another way, and that way holds at k too
pub one_more : (P Q : ℕ → Type 0) (k : ℕ) → ((j : ℕ) → P j → Q j) → ((j : ℕ) → j < k → P j) → Q k → (j : ℕ) → j < k + 1 → Q j
one_more P Q k still before here j below = elim (cases_eq j k) [
  | inl same ↦ subst Q (sym same) here
  | inr other ↦ still j (before j (omega arith))
]

-- what was marked or settled still is when more is marked
pub still_marked : (bounds : List ℕ) (old new : WorkValue) (s : Slot) → ((t : Slot) → IsMarked old t → IsMarked new t)
    → IsMarkedOrSettled bounds old s → IsMarkedOrSettled bounds new s
still_marked bounds old new s kept (inl marked) = inl (kept s marked)
still_marked bounds old new s kept (inr settled) = inr settled

-- each distance has a place, and each even one
pub all_distances : (side : Side) (P : ℕ → Type 0) → ((k : ℕ) → k < distances → P (distance_at side k)) → (d : ℕ) → 3 ≤ d → d ≤ MAX_N → P d
all_distances Upper P each d far near =
    let same : 3 + (d - 3) ≡ d = omega arith in
    subst P same (each (d - 3) (omega arith))
all_distances Lower P each d far near =
    let same : MAX_N - (MAX_N - d) ≡ d = omega arith in
    subst P same (each (MAX_N - d) (omega arith))

pub all_even_distances : (side : Side) (P : ℕ → Type 0) → ((k : ℕ) → k < even_distances → P (even_distance_at side k))
    → (d : ℕ) → 4 ≤ d → d ≤ MAX_N → d % 2 ≡ 0 → P d
all_even_distances Upper P each d far near even =
    let same : 4 + 2 * ((d - 4) / 2) ≡ d = omega arith in
    subst P same (each ((d - 4) / 2) (omega arith))
all_even_distances Lower P each d far near even =
    let same : MAX_N - 2 * ((MAX_N - d) / 2) ≡ d = omega arith in
    subst P same (each ((MAX_N - d) / 2) (omega arith))

-- all entries of a side, with weight and without
pub each_entry : (bounds : List ℕ) (work : WorkValue) (side : Side)
    → ((d : ℕ) → 4 ≤ d → d ≤ MAX_N → d % 2 ≡ 0 → AreMarkedWithWeight bounds work side d)
    → ((n : ℕ) → 1 ≤ n → n ≤ MAX_N → AreMarkedWithoutWeight bounds work side n)
    → (e : Entry) → IsEntry e → IsMarkedOrSettled bounds work (side, e)
each_entry bounds work side weights plain e = go e.n e.d e.w
  where
    go : (n d : ℕ) (w : Option ℕ) → IsEntry (record { n = n; d = d; w = w }) → IsMarkedOrSettled bounds work (side, record { n = n; d = d; w = w })
    go n d None entry =
        let limits = entry_limits (record { n = n; d = d; w = None }) entry in
        plain n limits.length_from limits.length_to d limits.distance_from limits.distance_to
    go n d (Some w) entry =
        let limits = entry_limits (record { n = n; d = d; w = Some w }) entry in
        weights d limits.weight.1 limits.distance_to limits.weight.0 n w limits.length_from limits.length_to limits.weight.2

-- both sides
pub both_sides : (bounds : List ℕ) (work : WorkValue) → ((e : Entry) → IsEntry e → IsMarkedOrSettled bounds work (Lower, e))
    → ((e : Entry) → IsEntry e → IsMarkedOrSettled bounds work (Upper, e)) → (s : Slot) → IsEntry s.1 → IsMarkedOrSettled bounds work s
both_sides bounds work lower upper (Lower, e) entry = lower e entry
both_sides bounds work lower upper (Upper, e) entry = upper e entry
