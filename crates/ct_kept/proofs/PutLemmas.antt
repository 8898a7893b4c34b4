-- The bounds and the reasons after a line is put: at the slot of its claim, and at the others.
use Rattle.std.proofs.Common.{◌≡◌, ◌*◌, ◌<◌, length, subst, sym}
use Rattle.std.specs.Prelude.{◌≢◌}
use Rattle.std.proofs.lemmas.List.{get_or-set_same, get_or-set_other}
use Rattle.ct_words.specs.Entry.{IsEntry}
use Rattle.ct_rules.specs.Derivation.{LineValue}
use Rattle.ct_rule_parts.specs.Slot.{Slot, slot_of}
use Rattle.ct_kept.specs.Kept.{KeptValue, reason_of, with_line_put}
use Rattle.ct_slots.specs.Number.{bound_of, side_size, slot_number}
use Rattle.ct_slots.proofs.NumberLemmas.{slot_number-bound}

-- at the slot of the claim they are the claim's bound, and the place of the line
pub bound-put : (kept : KeptValue) (line : LineValue) → length kept.bounds ≡ 2 * side_size → IsEntry line.claim.entry
    → bound_of (with_line_put kept line).bounds (slot_of line.claim) ≡ line.claim.value
bound-put kept line count entry =
    let s = slot_of line.claim in
    get_or-set_same kept.bounds (slot_number s) line.claim.value 0
    (subst (λ m. slot_number s < m) (sym count) (slot_number-bound s entry))

pub reason-put : (kept : KeptValue) (line : LineValue) → length kept.reasons ≡ 2 * side_size
    → IsEntry line.claim.entry
    → reason_of (with_line_put kept line) (slot_of line.claim) ≡ length kept.lines
reason-put kept line count entry =
    let s = slot_of line.claim in
    get_or-set_same kept.reasons (slot_number s) (length kept.lines) 0
    (subst (λ m. slot_number s < m) (sym count) (slot_number-bound s entry))

-- at a slot of another number they stay
pub bound-put_other : (kept : KeptValue) (line : LineValue) (s : Slot)
    → slot_number s ≢ slot_number (slot_of line.claim)
    → bound_of (with_line_put kept line).bounds s ≡ bound_of kept.bounds s
bound-put_other kept line s other =
    get_or-set_other kept.bounds (slot_number (slot_of line.claim)) (slot_number s) line.claim.value 0 other

pub reason-put_other : (kept : KeptValue) (line : LineValue) (s : Slot)
    → slot_number s ≢ slot_number (slot_of line.claim)
    → reason_of (with_line_put kept line) s ≡ reason_of kept s
reason-put_other kept line s other =
    get_or-set_other kept.reasons (slot_number (slot_of line.claim)) (slot_number s) (length kept.lines) 0 other
