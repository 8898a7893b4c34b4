-- A table none of whose later lines names a support of a set: it is one without them as it stands.
use Rattle.std.proofs.Common.{◌≡◌, ℕ, ◌+◌, ◌-◌, ◌≤◌, List, length, take, drop, Some, false, slice_get, All, refl, sym, ap, subst, ◌∙◌, arith, inl, inr}
use Rattle.std.proofs.lemmas.Bool.{cases_lt}
use Rattle.std.proofs.lemmas.List.{take-append-drop}
use Rattle.std.proofs.lemmas.Option.{slice_get_within, get_or_from_slice_get}
use Rattle.ct_rule_parts.specs.declared.support.Support.{Support}
use Rattle.ct_rules.specs.Derivation.{LineValue, Follows}
use Rattle.ct_rules.specs.Rule.{named_place}
use Rattle.ct_rule_parts.proofs.Places.{slice_get-append_right}
use Rattle.ct_rules.specs.Removal.{Places, names_one, voided}
use Rattle.ct_rules.proofs.VoidedSupports.{premises_of-voided, value_of-voided, IsClosed-voided}
use Rattle.ct_table.specs.Closing.{ClosingValue, HasMoreLines}
use Rattle.ct_kept.specs.Kept.{KeptValue, BaseValue, set_back}
use Rattle.ct_slots.specs.Number.{bound_of}
use Rattle.ct_table.specs.Inside.Removing.{IsTakenOut}
use Rattle.ct_table.specs.Table.{IsTable}
use Rattle.ct_table.proofs.BaseLemmas.{base_count, line_names_nothing}
use Rattle.ct_table.proofs.WalkLemmas.{slice_get-front}

-- a line whose rule names none of them follows without them
Follows-voided : (gone : Places) (supports : List Support) (before : List LineValue) (line : LineValue)
    → names_one gone (named_place line.rule) ≡ false → Follows supports before line → Follows (voided gone supports) before line
Follows-voided gone supports before line apart follows = record {
  earlier = follows.earlier;
  side = follows.side;
  premises = premises_of-voided gone supports line.rule line.claim.entry apart ∙ follows.premises;
  value = value_of-voided gone supports line.rule line.claim.entry _ apart ∙ follows.value;
}

-- no line of the table names one of them
abbrev NamesNone : Places → LineValue → Type 0
NamesNone gone l = names_one gone (named_place l.rule) ≡ false

names_none : (gone : Places) (supports : List Support) (old : KeptValue) (base : BaseValue) (closing : ClosingValue)
    → IsTable supports old base closing.work → All (NamesNone gone) (drop old.base old.lines)
    → (i : ℕ) (line : LineValue) → slice_get old.lines i ≡ Some line → NamesNone gone line
names_none gone supports old base closing table none i line found = elim (cases_lt i old.base) [
  | inl first ↦
      ap (names_one gone) (line_names_nothing (take i (take old.base old.lines)) line
      (table.base.derivation i line (slice_get-front old.lines old.base i first ∙ found)))
  | inr later ↦
      let there = sym (in_drop later) ∙ found in
      subst (NamesNone gone) (get_or_from_slice_get (drop old.base old.lines) (i - old.base) line line there)
      (none (i - old.base) line (slice_get_within (drop old.base old.lines) (i - old.base) line there))
]
  where
    in_drop : old.base ≤ i → slice_get old.lines i ≡ slice_get (drop old.base old.lines) (i - old.base)
    in_drop later =
        let count = base_count supports old table.kept in
        let place : i ≡ length (take old.base old.lines) + (i - old.base) = omega arith in
        ap (slice_get old.lines) place
        ∙ ap (λ (ls : List LineValue). slice_get ls (length (take old.base old.lines) + (i - old.base)))
        (sym (take-append-drop old.base old.lines))
        ∙ slice_get-append_right (take old.base old.lines) (drop old.base old.lines) (i - old.base)

-- so they are taken out
pub IsTakenOut-unnamed : (gone : Places) (supports : List Support) (base : BaseValue) (closing : ClosingValue)
    → IsTable supports closing.kept base closing.work → All (NamesNone gone) (drop closing.kept.base closing.kept.lines)
    → IsTakenOut gone supports closing.kept closing
IsTakenOut-unnamed gone supports base closing table none = record {
  kept = record {
    bound_count = table.kept.bound_count;
    reason_count = table.kept.reason_count;
    base_lines = table.kept.base_lines;
    derivation = λ i line found.
        Follows-voided gone supports (take i closing.kept.lines) line
        (names_none gone supports closing.kept base closing table none i line found) (table.kept.derivation i line found);
    reasoned = table.kept.reasoned;
    last = table.kept.last;
    rise = table.kept.rise;
    grounded = table.kept.grounded;
  };
  closed = IsClosed-voided gone supports (bound_of closing.kept.bounds) table.closed;
  idle = table.idle;
  keeps = λ s entry free. refl;
}

-- and the lines are those of the base and more
pub HasMoreLines-whole : (base : BaseValue) (kept : KeptValue) → HasMoreLines (set_back base kept) kept
HasMoreLines-whole base kept = (refl, (drop kept.base kept.lines, sym (take-append-drop kept.base kept.lines)))
