-- The numbers that name a part of the table in a command: D, or D W.
use Rattle.std.specs.Prelude.{ℕ, List, [], ◌∷◌, Option, Some, None}
use Rattle.ct_words.specs.declared.entry.Entry.{Entry}
use Rattle.ct_text.specs.Number.{number_of}
use Rattle.ct_text.specs.EntryNumbers.{weight_from, named_entry}
use Rattle.ct_text.specs.declared.table_numbers.TableNumbers.{TableNumbers}

-- the two numbers, if each of them is there
abbrev pub table_numbers_from : Option ℕ → Option (Option ℕ) → Option TableNumbers
table_numbers_from (Some d) (Some w) = Some (record { d = d; w = w })
table_numbers_from d w = None

-- the numbers that the words write: one of them, or two with the weight
abbrev pub table_numbers_of : List (List ℕ) → Option TableNumbers
table_numbers_of (d ∷ []) = table_numbers_from (number_of d) (Some None)
table_numbers_of (d ∷ w ∷ []) = table_numbers_from (number_of d) (weight_from (number_of w))
table_numbers_of words = None

-- the entry of length n with the distance and, where it is named, the weight, if the table has it
abbrev pub entry_of_length : TableNumbers → ℕ → Option Entry
entry_of_length m n = named_entry (record { n = n; d = m.d; w = m.w })
