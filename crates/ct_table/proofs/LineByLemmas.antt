-- The line by which a rule gives a bound over what is kept.
use Rattle.std.proofs.Common.{◌≡◌, ℕ, ◌<◌, List, length, map, slice_index_or, Option, Some, None, refl, sym, ap, ◌∙◌}
use Rattle.std.specs.Prelude.{Bool, true, false, if◌then◌else◌}
use Rattle.std.proofs.lemmas.List.Elements.{All-map}
use Rattle.std.proofs.lemmas.Option.{none-some}
use Rattle.ct_words.specs.declared.entry.Entry.{Entry}
use Rattle.ct_rule_parts.specs.declared.support.Support.{Support}
use Rattle.ct_rule_parts.specs.Slot.{Slot, slot_of}
use Rattle.ct_rules.specs.declared.rule.Rule.{Rule}
use Rattle.ct_rules.specs.Derivation.{Follows}
use Rattle.ct_rules.specs.Rule.{premises_at, applies, premises_of, value_of}
use Rattle.ct_rules.proofs.ClosedBounds.{slots_of_claims, values_of_claims}
use Rattle.ct_rules.proofs.RuleLaws.{premises_in_table}
use Rattle.ct_slots.specs.Number.{bound_of}
use Rattle.ct_kept.specs.Kept.{KeptValue, IsKept, reason_of}
use Rattle.ct_kept.proofs.KeptLemmas.{reason-within, claims_at-reasons}
use Rattle.ct_offers.specs.Offers.{value_over}
use Rattle.ct_table.specs.Inside.Turn.{line_by}

-- the value over bounds of a rule that is defined
pub value_over_is : (supports : List Support) (f : Slot → ℕ) (r : Rule) (e : Entry) → applies supports r e ≡ true
    → value_over supports f r e ≡ value_of supports r e (map f (premises_at supports r e))
value_over_is supports f r e h =
    ap (λ b. if b then value_of supports r e (map f (premises_at supports r e)) else None) h

-- an option is there where a test lets it through and it was there
let_through : {X : Type 0} (b : Bool) (o : Option X) (x : X) → (if b then o else None) ≡ Some x → b ≡ true
let_through true o x h = refl
let_through false o x h = absurd (none-some x h)

-- a rule that gives a bound is defined
pub applies_from_over : (supports : List Support) (f : Slot → ℕ) (r : Rule) (e : Entry) (v : ℕ)
    → value_over supports f r e ≡ Some v → applies supports r e ≡ true
applies_from_over supports f r e v h =
    let_through (applies supports r e) (value_of supports r e (map f (premises_at supports r e))) v h

-- the line by which a rule gives a bound follows
pub Follows-line_by : (supports : List Support) (kept : KeptValue) (r : Rule) (e : Entry) (v : ℕ) → IsKept supports kept
    → value_over supports (bound_of kept.bounds) r e ≡ Some v
    → Follows supports kept.lines (line_by supports kept r e v)
Follows-line_by supports kept r e v good given =
    let bounds = bound_of kept.bounds in
    let defined = applies_from_over supports bounds r e v given in
    let slots = premises_at supports r e in
    let premises : premises_of supports r e ≡ Some slots =
    ap (λ b. if b then Some slots else None) defined in
    let entries = premises_in_table supports r e slots premises in
    let claims = claims_at-reasons supports kept slots good entries in
    record {
      earlier =
          All-map (λ p. p < length kept.lines) (reason_of kept) slots
          (λ k d within. reason-within supports kept (slice_index_or slots k d) good (entries k d within));
      side = refl;
      premises = premises ∙ ap Some (sym (ap (map slot_of) claims ∙ slots_of_claims bounds slots));
      value =
          ap (value_of supports r e) (ap (map (λ c. c.value)) claims ∙ values_of_claims bounds slots)
          ∙ sym (value_over_is supports bounds r e defined) ∙ given;
    }
