-- The numbers that name an entry in a command: N D, or N D W.
use Rattle.std.specs.Prelude.{ℕ, if◌then◌else◌, List, [], ◌∷◌, Option, Some, None}
use Rattle.ct_words.specs.declared.entry.Entry.{Entry}
use Rattle.ct_words.specs.Entry.{is_entry}
use Rattle.ct_text.specs.Number.{number_of}
use Rattle.ct_text.specs.declared.entry_numbers.EntryNumbers.{EntryNumbers}

-- the three numbers, if each of them is there
abbrev pub numbers_from : Option ℕ → Option ℕ → Option (Option ℕ) → Option EntryNumbers
numbers_from (Some n) (Some d) (Some w) = Some (record { n = n; d = d; w = w })
numbers_from n d w = None

-- a weight that is there
abbrev pub weight_from : Option ℕ → Option (Option ℕ)
weight_from None = None
weight_from (Some w) = Some (Some w)

-- the numbers that the words write: two of them, or three with the weight
abbrev pub entry_numbers_of : List (List ℕ) → Option EntryNumbers
entry_numbers_of (n ∷ d ∷ []) = numbers_from (number_of n) (number_of d) (Some None)
entry_numbers_of (n ∷ d ∷ w ∷ []) = numbers_from (number_of n) (number_of d) (weight_from (number_of w))
entry_numbers_of words = None

-- the entry of the table that the numbers name, if they name one
abbrev pub named_entry : EntryNumbers → Option Entry
named_entry m = let e : Entry = record { n = m.n; d = m.d; w = m.w } in if is_entry e then Some e else None
