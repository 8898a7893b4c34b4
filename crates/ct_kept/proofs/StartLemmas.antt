-- A table that is started: the slots with smaller numbers have their ground lines, and there are no other lines.
use Rattle.std.proofs.Common.{◌≡◌, ◌≢◌, ℕ, ◌+◌, ◌-◌, ◌*◌, ◌/◌, ◌<◌, ◌≤◌, List, [], ◌∷◌, length, take, slice_get, Some, option_map, refl, sym, ap, subst, ◌∙◌, inl, inr, arith, length-set}
use Rattle.std.proofs.lemmas.Bool.{cases_eq}
use Rattle.std.proofs.lemmas.Option.{none-some}
use Rattle.ct_words.specs.Entry.{IsEntry, unrestricted, constant_weight}
use Rattle.ct_rule_parts.specs.declared.support.Support.{Support}
use Rattle.ct_words.specs.declared.claim.Side.{Side}
use Rattle.ct_rules.specs.Derivation.{LineValue, Follows}
use Rattle.ct_rule_parts.specs.Slot.{Slot, slot_of, claim_at}
use Rattle.ct_rule_parts.proofs.Places.{slice_get_last}
use Rattle.ct_kept.specs.Kept.{KeptValue, IsKept, reason_of, with_line_put}
use Rattle.ct_kept.specs.Inside.Ground.{IsGroundLine}
use Rattle.ct_kept.specs.Inside.Started.{HasGround, IsGroundBelow, IsStarted}
use Rattle.ct_slots.specs.Number.{bound_of, distances, even_distances, side_size, side_number, slot_number, entries_to}
use Rattle.ct_rule_parts.proofs.GetLemmas.{IsOldOrNew, slice_get-append_some, slice_get_push_cases}
use Rattle.ct_kept.proofs.GroundLemmas.{Follows-ground, IsGround-line}
use Rattle.ct_kept.proofs.LineLemmas.{kept_in}
use Rattle.ct_kept.proofs.PutLemmas.{bound-put, reason-put, bound-put_other, reason-put_other}
use Rattle.ct_slots.proofs.NumberLemmas.{entries_to-length, slot_number-bound, slot_number-injective}

-- nothing is started yet
pub IsStarted-none : (bounds reasons : List ℕ) → length bounds ≡ 2 * side_size → length reasons ≡ 2 * side_size
    → IsStarted 0 (record { bounds = bounds; reasons = reasons; lines = []; base = 0 })
IsStarted-none bounds reasons bound_count reason_count = record {
  bound_count = bound_count;
  reason_count = reason_count;
  no_base = refl;
  grounded = λ s entry below. absurd (omega arith);
  lines = λ i l found. absurd (none-some l found);
}

pub IsStarted-empty : (kept : KeptValue) → length kept.bounds ≡ 2 * side_size → length kept.reasons ≡ 2 * side_size → kept.lines ≡ [] → kept.base ≡ 0
    → IsStarted 0 kept
IsStarted-empty kept bound_count reason_count no_lines no_base =
    subst (IsStarted 0) (λ i. kept_in kept.bounds kept.reasons (sym no_lines i) (sym no_base i))
    (IsStarted-none kept.bounds kept.reasons bound_count reason_count)

-- the ground line of the slot that has the number is put
pub IsStarted-put : (count : ℕ) (kept : KeptValue) (put : LineValue) → IsEntry put.claim.entry → slot_number (slot_of put.claim) ≡ count
    → IsGroundLine (slot_of put.claim) put → IsStarted count kept → IsStarted (count + 1) (with_line_put kept put)
IsStarted-put count kept put entry number ground started = record {
  bound_count = length-set kept.bounds (slot_number s) put.claim.value ∙ started.bound_count;
  reason_count = length-set kept.reasons (slot_number s) (length kept.lines) ∙ started.reason_count;
  no_base = started.no_base;
  grounded = λ t t_entry below. elim (cases_eq (slot_number t) (slot_number s)) [
    | inl same ↦ subst (HasGround new) (sym (slot_number-injective t s t_entry entry same)) here
    | inr other ↦ kept_ground t other (started.grounded t t_entry (omega (arith, number)))
  ];
  lines = λ i l found. line i l (slice_get_push_cases kept.lines put i l found);
}
  where
    s : Slot
    s = slot_of put.claim

    new : KeptValue
    new = with_line_put kept put

    reason : reason_of new s ≡ length kept.lines
    reason = reason-put kept put started.reason_count entry

    here : HasGround new s
    here = record {
      line = put;
      there = ap (slice_get new.lines) reason ∙ slice_get_last kept.lines put;
      value = sym (bound-put kept put started.bound_count entry);
      ground = ground;
    }

    kept_ground : (t : Slot) → slot_number t ≢ slot_number s → HasGround kept t → HasGround new t
    kept_ground t other old = record {
      line = old.line;
      there = ap (slice_get new.lines) (reason-put_other kept put t other)
          ∙ slice_get-append_some kept.lines (put ∷ []) (reason_of kept t) old.line old.there;
      value = old.value ∙ sym (bound-put_other kept put t other);
      ground = old.ground;
    }

    line : (i : ℕ) (l : LineValue) → IsOldOrNew kept.lines put i l → IsGroundBelow new (count + 1) i l
    line i l (inl found) =
        let old = started.lines i l found.1 in
        let below = old.below in
        let other : slot_number (slot_of l.claim) ≢ slot_number s = omega (arith, number) in
        record {
          entry = old.entry;
          below = omega arith;
          reason = old.reason ∙ sym (reason-put_other kept put (slot_of l.claim) other);
          ground = old.ground;
        }
    line i l (inr (place, same)) = subst (IsGroundBelow new (count + 1) i) same (record {
      entry = entry;
      below = omega (arith, number);
      reason = place ∙ sym reason;
      ground = ground;
    })

-- that of the next slot
pub IsStarted-next : (number : ℕ) (kept : KeptValue) (s : Slot) (put : LineValue) → IsEntry s.1 → slot_number s ≡ number
    → IsGroundLine s put → IsStarted number kept → IsStarted (number + 1) (with_line_put kept put)
IsStarted-next number kept s put entry is ground started =
    IsStarted-put number kept put
    (subst (λ (t : Slot). IsEntry t.1) (sym ground.slot) entry)
    (ap slot_number ground.slot ∙ is)
    (subst (λ (t : Slot). IsGroundLine t put) (sym ground.slot) ground) started

-- the numbers of the slots of a length, counted on
pub first_number : (side : Side) (n : ℕ) → slot_number (side, unrestricted n 3) ≡ side_number side * side_size + entries_to (n - 1)
unfolding slot_number
first_number side n = omega arith

pub distance_number : (side : Side) (n d : ℕ) → 3 ≤ d → slot_number (side, unrestricted n d) ≡ slot_number (side, unrestricted n 3) + (d - 3)
unfolding slot_number
distance_number side n d far = omega arith

pub weights_number : (side : Side) (n : ℕ) → slot_number (side, constant_weight n 4 0) ≡ slot_number (side, unrestricted n 3) + distances
unfolding slot_number
weights_number side n = omega arith

pub weight_number : (side : Side) (n d w : ℕ) → slot_number (side, constant_weight n d w) ≡ slot_number (side, constant_weight n d 0) + w
unfolding slot_number
weight_number side n d w = omega arith

pub row_number : (side : Side) (n k : ℕ)
    → slot_number (side, constant_weight n (4 + 2 * k) 0) ≡ slot_number (side, constant_weight n 4 0) + k * (n + 1)
unfolding slot_number
row_number side n k =
    let half : (4 + 2 * k) / 2 - 2 ≡ k = omega arith in
    let product = ap (λ z. z * (n + 1)) half in
    omega arith

pub all_numbers : (side : Side) (n first : ℕ) → 1 ≤ n → first ≡ slot_number (side, constant_weight n 4 0)
    → first + even_distances * (n + 1) ≡ side_number side * side_size + entries_to n
all_numbers side n first some is =
    let weighted = weights_number side n in
    let plain = first_number side n in
    let next = entries_to-length n some in
    omega arith

-- up to another number that is the same
pub IsStarted-same : (kept : KeptValue) (a b : ℕ) → a ≡ b → IsStarted a kept → IsStarted b kept
IsStarted-same kept a b same started = subst (λ k. IsStarted k kept) same started

-- the claim of a line whose slot and whose bound are known
claim_of : (l : LineValue) (s : Slot) (v : ℕ) → slot_of l.claim ≡ s → l.claim.value ≡ v → l.claim ≡ claim_at s v
claim_of l s v slot value = λ i. record { side = (slot i).0; entry = (slot i).1; value = value i }

-- a table that is started up to the last number is kept well, whatever the supports
pub IsKept-started : (kept : KeptValue) → IsStarted (2 * side_size) kept → (supports : List Support)
    → IsKept supports kept
IsKept-started kept started supports = record {
  bound_count = started.bound_count;
  reason_count = started.reason_count;
  base_lines = (let h = started.no_base in omega arith);
  derivation = λ i l found. follows i l (started.lines i l found);
  reasoned = λ s entry.
      let own = ground s entry in
      ap (option_map (λ l. l.claim)) own.there ∙ ap Some (claim_of own.line s (bound_of kept.bounds s) own.ground.slot own.value);
  last = λ i l found. let line = started.lines i l found in let h = line.reason in omega arith;
  rise = λ i j l m before first second same.
      absurd (apart i j l m before (started.lines i l first).reason (started.lines j m second).reason same);
  grounded = λ s entry.
      let own = ground s entry in
      (reason_of kept s, own.line, own.there, own.ground.slot, IsGround-line s own.line own.ground);
}
  where
    ground : (s : Slot) → IsEntry s.1 → HasGround kept s
    ground s entry = started.grounded s entry (slot_number-bound s entry)

    follows : (i : ℕ) (l : LineValue) → IsGroundBelow kept (2 * side_size) i l → Follows supports (take i kept.lines) l
    follows i l line = Follows-ground supports (take i kept.lines) l line.ground

    apart : (i j : ℕ) (l m : LineValue) → i < j → i ≡ reason_of kept (slot_of l.claim)
        → j ≡ reason_of kept (slot_of m.claim)
        → slot_of l.claim ≡ slot_of m.claim → ⊥
    apart i j l m before first second same =
        let e : reason_of kept (slot_of l.claim) ≡ reason_of kept (slot_of m.claim) = ap (reason_of kept) same in
        omega arith
