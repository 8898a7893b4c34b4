-- The entries that numbers name.
use Rattle.std.proofs.Common.{IfSome, inl, inr}
use Rattle.std.proofs.lemmas.Bool.{cases_Bool}
use Rattle.ct_words.specs.declared.entry.Entry.{Entry}
use Rattle.ct_words.specs.Entry.{IsEntry, is_entry}
use Rattle.ct_text.specs.EntryNumbers.{named_entry}
use Rattle.ct_text.specs.declared.entry_numbers.EntryNumbers.{EntryNumbers}

-- numbers name no entry but one of the table
pub named-is_entry : (m : EntryNumbers) → IfSome (named_entry m) IsEntry
named-is_entry m =
    let e : Entry = record { n = m.n; d = m.d; w = m.w } in
    elim (cases_Bool (is_entry e)) [
      | inl is ↦ rw is is
      | inr other ↦ rw other tt
    ]
