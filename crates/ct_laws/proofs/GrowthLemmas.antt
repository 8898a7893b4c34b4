-- A table with one more line that gives a better bound of its slot.
use Rattle.std.proofs.Common.{◌≡◌, ℕ, ◌*◌, List, [], ◌∷◌, length, refl, sym, subst, ◌∙◌, inl, inr}
use Rattle.std.proofs.lemmas.Bool.{cases_eq}
use Rattle.std.proofs.lemmas.List.Elements.{All-nil, All-cons}
use Rattle.ct_words.specs.Entry.{IsEntry}
use Rattle.ct_rule_parts.specs.declared.support.Support.{Support}
use Rattle.ct_rule_parts.specs.Slot.{Slot, slot_of, IsBetter}
use Rattle.ct_rules.specs.Derivation.{LineValue}
use Rattle.ct_kept.specs.Kept.{KeptValue, with_line_put}
use Rattle.ct_slots.specs.Number.{bound_of, side_size, slot_number}
use Rattle.ct_slots.proofs.BetterLemmas.{no_better_than_itself}
use Rattle.ct_slots.proofs.NumberLemmas.{slot_number-injective}
use Rattle.ct_kept.proofs.PutLemmas.{bound-put, reason-put_other}
use Rattle.ct_table.specs.Table.{Grew, table_of}

-- a line gives a better bound of its slot
abbrev IsImproved : List ℕ → LineValue → Type 0
IsImproved bounds l = IsBetter l.claim.side l.claim.value (bound_of bounds (slot_of l.claim))

pub Grew-with_line : (supports more : List Support) (kept : KeptValue) (line : LineValue)
    → length kept.bounds ≡ 2 * side_size → IsEntry line.claim.entry
    → IsBetter line.claim.side line.claim.value (bound_of kept.bounds (slot_of line.claim))
    → Grew (table_of supports kept) (table_of more (with_line_put kept line))
Grew-with_line supports more kept line count entry better = record {
  more = (line ∷ [], refl, All-cons (IsImproved kept.bounds) line [] better (All-nil (IsImproved kept.bounds)));
  same = λ s s_entry stays. elim (cases_eq (slot_number s) (slot_number at)) [
    | inl same ↦
        let one : s ≡ at = slot_number-injective s at s_entry entry same in
        let here = subst (λ (t : Slot). bound_of new.bounds t ≡ bound_of kept.bounds t) one stays in
        let value = sym here ∙ bound-put kept line count entry in
        absurd (no_better_than_itself line.claim.side line.claim.value
        (subst (IsBetter line.claim.side line.claim.value) value better))
    | inr other ↦ reason-put_other kept line s other
  ];
}
  where
    at : Slot
    at = slot_of line.claim

    new : KeptValue
    new = with_line_put kept line
