-- A worklist stays sound when a slot is marked, and when one is taken; and what is marked then.
use Rattle.std.proofs.Common.{◌≡◌, ◌≢◌, ℕ, zero, suc, ◌+◌, ◌-◌, ◌*◌, ◌<◌, ◌≤◌, Bool, true, false, List, [], ◌∷◌, ◌++◌, length, replicate, Some, ap, sym, ◌∙◌, subst, inl, inr, arith, length-set, length-drop, get_or, drop}
use Rattle.std.specs.Prelude.{slice_get, slice_set, slice_index_or, Contains, All, AllPairs, cond, if◌then◌else◌, ◌⊎◌}
use Rattle.std.proofs.lemmas.Bool.{cases_eq}
use Rattle.std.proofs.lemmas.List.{length-replicate}
use Rattle.std.proofs.lemmas.List.Elements.{All-nil, All-push, All-head, All-tail, Contains-push, Contains-append_left}
use Rattle.std.proofs.lemmas.List.Quantifiers.{all_pairs_push}
use Rattle.std.proofs.lemmas.List.Sums.{sum_by-set, sum_by-le}
use Rattle.std.proofs.lemmas.Option.{same_Some, none-some, get_or_from_slice_get}
use Rattle.ct_words.proofs.Counting.Pairs.{AllPairs-head, AllPairs-tail}
use Rattle.ct_words.specs.Entry.{IsEntry}
use Rattle.ct_rule_parts.specs.Slot.{Slot}
use Rattle.ct_slots.specs.Number.{side_size, slot_number}
use Rattle.ct_slots.specs.Worklist.{WorkValue, IsMarked, IsIdle, IsSoundWork, waiting}
use Rattle.ct_rule_parts.proofs.GetLemmas.{slice_get-set_same, slice_get-set_other, Contains-rest}
use Rattle.ct_slots.proofs.NumberLemmas.{slot_number-bound, slot_number-injective}

-- true isn't false
apart : false ≡ true → ⊥
apart h = absurd cc

-- a mark that was read isn't set
pub not_set : (marks : List Bool) (number : ℕ) (b : Bool) → b ≡ false → b ≡ get_or marks number b → slice_get marks number ≡ Some true → ⊥
not_set marks number b unset read set = apart (sym unset ∙ read ∙ get_or_from_slice_get marks number true b set)

-- no mark is set
no_mark : (n k : ℕ) → slice_get (replicate n false) k ≡ Some true → ⊥
no_mark zero k h = none-some true h
no_mark (suc n) zero h = apart (same_Some false true h)
no_mark (suc n) (suc k) h = no_mark n k h

pub IsSoundWork-none : (marks : List Bool) → marks ≡ replicate (2 * side_size) false
    → IsSoundWork (record { marks = marks; queue = [] })
IsSoundWork-none marks same = record {
  count = ap length same ∙ length-replicate (2 * side_size) false;
  entries = All-nil (λ (s : Slot). IsEntry s.1);
  once = λ i j d before within. absurd (omega arith);
  marked = All-nil (IsMarked (record { marks = marks; queue = [] }));
  queued = λ s entry marked. absurd (no_mark (2 * side_size) (slot_number s) (subst (λ m. slice_get m (slot_number s) ≡ Some true) same marked));
}

pub IsIdle-none : (marks : List Bool) (queue : List Slot) → marks ≡ replicate (2 * side_size) false
    → IsIdle (record { marks = marks; queue = queue })
IsIdle-none marks queue same s entry marked =
    no_mark (2 * side_size) (slot_number s) (subst (λ m. slice_get m (slot_number s) ≡ Some true) same marked)

-- where nothing can be taken from the queue, no slot is marked
pub IsIdle-empty : (marks : List Bool) (queue rest : List Slot) → IsSoundWork (record { marks = marks; queue = queue }) → queue ≡ rest
    → rest ≡ drop 1 queue → IsIdle (record { marks = marks; queue = queue })
IsIdle-empty marks queue rest sound same fewer s entry marked =
    let found = sound.queued s entry marked in
    let inside : found.0 < length queue = found.1 in
    let count : length queue ≡ length queue - 1 = ap length (same ∙ fewer) ∙ length-drop 1 queue in
    absurd (omega arith)

-- marks after one is set
pub is_set : (marks : List Bool) (s : Slot) (number : ℕ) → length marks ≡ 2 * side_size → IsEntry s.1
    → number ≡ slot_number s → slice_get (slice_set marks number true) (slot_number s) ≡ Some true
is_set marks s number count entry same =
    let bound = slot_number-bound s entry in
    subst (λ k. slice_get (slice_set marks k true) (slot_number s) ≡ Some true) (sym same)
    (slice_get-set_same marks (slot_number s) true (omega arith))

pub stays_set : (marks : List Bool) (number k : ℕ) → number < length marks → slice_get marks k ≡ Some true
    → slice_get (slice_set marks number true) k ≡ Some true
stays_set marks number k inside set = elim (cases_eq k number) [
  | inl here ↦ subst (λ j. slice_get (slice_set marks number true) j ≡ Some true) (sym here) (slice_get-set_same marks number true inside)
  | inr other ↦ slice_get-set_other marks number k true other ∙ set
]

pub was_set : (marks : List Bool) (s t : Slot) (number : ℕ) → IsEntry s.1 → IsEntry t.1 → number ≡ slot_number s
    → slice_get (slice_set marks number true) (slot_number t) ≡ Some true
    → (slice_get marks (slot_number t) ≡ Some true) ⊎ (t ≡ s)
was_set marks s t number s_entry t_entry same set = elim (cases_eq (slot_number t) number) [
  | inl here ↦ inr (slot_number-injective t s t_entry s_entry (here ∙ same))
  | inr other ↦ inl (sym (slice_get-set_other marks number (slot_number t) true other) ∙ set)
]

-- a mark that was read is set
pub slot_set : (marks : List Bool) (s : Slot) (number : ℕ) (b : Bool) → slice_get marks number ≡ Some b → b ≡ true → number ≡ slot_number s
    → slice_get marks (slot_number s) ≡ Some true
slot_set marks s number b read set same = subst (λ k. slice_get marks k ≡ Some true) same (read ∙ ap (λ (m : Bool). Some m) set)

-- what waits after a slot is marked: all as before where it was marked, else the slot too
pub queue-marked : (work : WorkValue) (s : Slot) → IsMarked work s
    → work.queue ≡ (if slice_index_or work.marks (slot_number s) false then work.queue else work.queue ++ s ∷ [])
queue-marked work s marked =
    ap (λ (b : Bool). if b then work.queue else work.queue ++ s ∷ []) (sym (get_or_from_slice_get work.marks (slot_number s) true false marked))

pub queue-unmarked : (marks : List Bool) (queue : List Slot) (s : Slot) (number : ℕ) (b : Bool) → number ≡ slot_number s → b ≡ false
    → b ≡ get_or marks number b → queue ++ s ∷ [] ≡ (if slice_index_or marks (slot_number s) false then queue else queue ++ s ∷ [])
queue-unmarked marks queue s number b same unset read =
    let here : false ≡ get_or marks number false = subst (λ (m : Bool). m ≡ get_or marks number m) unset read in
    ap (λ (m : Bool). if m then queue else queue ++ s ∷ []) (here ∙ ap (λ k. get_or marks k false) same)

-- and after one is taken away
pub is_unset : (marks : List Bool) (s : Slot) (number : ℕ) → length marks ≡ 2 * side_size → IsEntry s.1
    → number ≡ slot_number s → slice_get (slice_set marks number false) (slot_number s) ≡ Some true → ⊥
is_unset marks s number count entry same set =
    let bound = slot_number-bound s entry in
    let here : slice_get (slice_set marks number false) (slot_number s) ≡ Some false =
    subst (λ k. slice_get (slice_set marks k false) (slot_number s) ≡ Some false) (sym same)
    (slice_get-set_same marks (slot_number s) false (omega arith)) in
    apart (same_Some false true (sym here ∙ set))

pub others_set : (marks : List Bool) (s t : Slot) (number : ℕ) → IsEntry s.1 → IsEntry t.1 → number ≡ slot_number s → t ≢ s
    → slice_get marks (slot_number t) ≡ Some true → slice_get (slice_set marks number false) (slot_number t) ≡ Some true
others_set marks s t number s_entry t_entry same other set =
    slice_get-set_other marks number (slot_number t) false
    (λ here. other (slot_number-injective t s t_entry s_entry (here ∙ same))) ∙ set

pub set_before : (marks : List Bool) (number k : ℕ) → number < length marks
    → slice_get (slice_set marks number false) k ≡ Some true → slice_get marks k ≡ Some true
set_before marks number k inside set = elim (cases_eq k number) [
  | inl here ↦
      let unset = slice_get-set_same marks number false inside in
      let now : slice_get (slice_set marks number false) number ≡ Some true =
      subst (λ j. slice_get (slice_set marks number false) j ≡ Some true) here set in
      absurd (apart (same_Some false true (sym unset ∙ now)))
  | inr other ↦ sym (slice_get-set_other marks number k false other) ∙ set
]

-- one more mark, and its slot at the end of the queue
pub IsSoundWork-marked : (marks : List Bool) (queue more : List Slot) (s : Slot) (number : ℕ)
    → IsSoundWork (record { marks = marks; queue = queue }) → IsEntry s.1 → number ≡ slot_number s
    → (slice_get marks number ≡ Some true → ⊥) → more ≡ queue ++ s ∷ []
    → IsSoundWork (record { marks = slice_set marks number true; queue = more })
IsSoundWork-marked marks queue more s number sound entry same unset longer =
    subst (λ (q : List Slot). IsSoundWork (record { marks = slice_set marks number true; queue = q })) (sym longer) (record {
      count = length-set marks number true ∙ sound.count;
      entries = All-push (λ (t : Slot). IsEntry t.1) queue s sound.entries entry;
      once = all_pairs_push (λ t u. t ≢ u) queue s sound.once
          (λ k d within one. unset (subst (λ j. slice_get marks j ≡ Some true) (ap slot_number one ∙ sym same) (sound.marked k d within)));
      marked = All-push (IsMarked new) queue s
          (λ k d within. stays_set marks number (slot_number (slice_index_or queue k d)) inside (sound.marked k d within))
          (is_set marks s number sound.count entry same);
      queued = λ t t_entry set. elim (was_set marks s t number entry t_entry same set) [
        | inl before ↦ Contains-append_left queue (s ∷ []) t (sound.queued t t_entry before)
        | inr one ↦ subst (Contains (queue ++ s ∷ [])) (sym one) (Contains-push queue s)
      ];
    })
  where
    new : WorkValue
    new = record { marks = slice_set marks number true; queue = queue ++ s ∷ [] }

    inside : number < length marks
    inside = let bound = slot_number-bound s entry in let count = sound.count in omega arith

-- one mark less, and its slot no longer at the head of the queue
pub IsSoundWork-taken : (marks : List Bool) (queue rest : List Slot) (s : Slot) (number : ℕ)
    → IsSoundWork (record { marks = marks; queue = queue }) → number ≡ slot_number s → queue ≡ s ∷ rest
    → IsSoundWork (record { marks = slice_set marks number false; queue = rest })
IsSoundWork-taken marks queue rest s number sound same first = record {
  count = length-set marks number false ∙ sound.count;
  entries = rest_entries;
  once = AllPairs-tail (λ t u. t ≢ u) s rest once;
  marked = λ k d within.
      let t = slice_index_or rest k d in
      others_set marks s t number entry (rest_entries k d within) same
      (λ one. AllPairs-head (λ t u. t ≢ u) s rest once k d within (sym one))
      (All-tail (IsMarked old) s rest marked k d within);
  queued = λ t t_entry set.
      Contains-rest s rest t (subst (λ q. Contains q t) first (sound.queued t t_entry (set_before marks number (slot_number t) inside set)))
      (λ one. is_unset marks s number sound.count entry same (subst (λ u. slice_get (slice_set marks number false) (slot_number u) ≡ Some true) one set));
}
  where
    old : WorkValue
    old = record { marks = marks; queue = queue }

    once : AllPairs (λ t u. t ≢ u) (s ∷ rest)
    once = subst (AllPairs (λ t u. t ≢ u)) first sound.once

    entries : All (λ (t : Slot). IsEntry t.1) (s ∷ rest)
    entries = subst (All (λ (t : Slot). IsEntry t.1)) first sound.entries

    entry : IsEntry s.1
    entry = All-head (λ (t : Slot). IsEntry t.1) s rest entries

    rest_entries : All (λ (t : Slot). IsEntry t.1) rest
    rest_entries = All-tail (λ (t : Slot). IsEntry t.1) s rest entries

    marked : All (IsMarked old) (s ∷ rest)
    marked = subst (All (IsMarked old)) first sound.marked

    inside : number < length marks
    inside = let bound = slot_number-bound s entry in let count = sound.count in omega arith

-- the slot at the head of the queue is one of the table, and marked
pub head_entry : (marks : List Bool) (queue rest : List Slot) (s : Slot) → IsSoundWork (record { marks = marks; queue = queue })
    → queue ≡ s ∷ rest → IsEntry s.1
head_entry marks queue rest s sound first =
    All-head (λ (t : Slot). IsEntry t.1) s rest (subst (All (λ (t : Slot). IsEntry t.1)) first sound.entries)

pub head_marked : (marks : List Bool) (queue rest : List Slot) (s : Slot) (number : ℕ)
    → IsSoundWork (record { marks = marks; queue = queue }) → queue ≡ s ∷ rest → number ≡ slot_number s
    → slice_get marks number ≡ Some true
head_marked marks queue rest s number sound first same =
    let work : WorkValue = record { marks = marks; queue = queue } in
    subst (λ k. slice_get marks k ≡ Some true) (sym same)
    (All-head (IsMarked work) s rest (subst (All (IsMarked work)) first sound.marked))

-- how many wait: one more, or one less
pub waiting-set : (marks : List Bool) (queue more : List Slot) (number : ℕ) → number < length marks
    → waiting (record { marks = slice_set marks number true; queue = more }) ≤ waiting (record { marks = marks; queue = queue }) + 1
waiting-set marks queue more number inside =
    let sums = sum_by-set (λ b. cond b 1 0) marks number true false inside in
    omega arith

pub waiting-unset : (marks : List Bool) (queue more : List Slot) (number : ℕ) → number < length marks
    → slice_get marks number ≡ Some true
    → waiting (record { marks = slice_set marks number false; queue = more }) + 1 ≡ waiting (record { marks = marks; queue = queue })
waiting-unset marks queue more number inside set =
    let sums = sum_by-set (λ b. cond b 1 0) marks number false false inside in
    let here : cond {A = ℕ} (get_or marks number false) 1 0 ≡ 1 =
    ap (λ (b : Bool). cond b 1 0) (get_or_from_slice_get marks number true false set) in
    omega arith

-- no more wait than there are slots
mark_count : (b : Bool) → cond b 1 0 ≤ 1
mark_count true = omega arith
mark_count false = omega arith

pub waiting-bound : (work : WorkValue) → IsSoundWork work → waiting work ≤ 2 * side_size
waiting-bound work sound =
    let most = sum_by-le (λ b. cond b 1 0) 1 work.marks (λ k d within. mark_count (slice_index_or work.marks k d)) in
    let count = sound.count in
    omega arith
