-- A turn of the closing: the line that it puts, and what it uses up.
use Rattle.std.specs.Prelude.{◌≡◌, ℕ, ◌+◌, ◌-◌, ◌*◌, List, map, take, drop, sum_by}
use Rattle.std.proofs.Common.{◌⊎◌}
use Rattle.ct_words.specs.declared.limits.TheConstants.{MAX_BOUND}
use Rattle.ct_words.specs.declared.entry.Entry.{Entry}
use Rattle.ct_words.specs.Entry.{IsEntry}
use Rattle.ct_rule_parts.specs.declared.support.Support.{Support}
use Rattle.ct_rule_parts.specs.Slot.{Slot, claim_at}
use Rattle.ct_rules.specs.declared.rule.Rule.{Rule}
use Rattle.ct_rules.specs.Derivation.{LineValue}
use Rattle.ct_rules.specs.Rule.{rule_side, premises_at}
use Rattle.ct_slots.specs.Number.{bound_of, side_size}
use Rattle.ct_slots.specs.Worklist.{WorkValue, IsMarked, waiting}
use Rattle.ct_kept.specs.Kept.{KeptValue, reason_of}
use Rattle.ct_table.specs.Closing.{IsSatisfiedAt}

-- the line by which a rule gives a bound at an entry over what is kept
abbrev pub line_by : List Support → KeptValue → Rule → Entry → ℕ → LineValue
line_by supports kept r e v = record {
  claim = claim_at (rule_side r, e) v;
  rule = r;
  from = map (reason_of kept) (premises_at supports r e);
}

-- by how much all bounds can still improve: from below up to MAX_BOUND, from above down to 0
abbrev pub slack : List ℕ → ℕ
slack bounds = sum_by (λ v. MAX_BOUND - v) (take side_size bounds) + sum_by (λ v. v) (drop side_size bounds)

-- what the closing uses up at each turn
abbrev pub potential : List ℕ → WorkValue → ℕ
potential bounds work = slack bounds * (2 * side_size + 1) + waiting work

-- each slot of the table but one is marked, or no rule gives anything better there
abbrev pub IsPendingBut : Slot → List Support → List ℕ → WorkValue → Type 0
IsPendingBut s supports bounds work = (t : Slot) → IsEntry t.1 → ¬ (IsMarked work t) → (t ≡ s) ⊎ IsSatisfiedAt supports (bound_of bounds) t
