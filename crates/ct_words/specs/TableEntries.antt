-- The entries of the table, listed by its columns.
use Rattle.std.specs.Prelude.{ℕ, ◌+◌, ◌-◌, List, ◌++◌, map, filter, Option, Some, None}
use Rattle.std.specs.List.{flat_map, range_with_len}
use Rattle.ct_words.specs.declared.limits.TheConstants.{MAX_N}
use Rattle.ct_words.specs.declared.entry.Entry.{Entry}
use Rattle.ct_words.specs.Entry.{is_entry}

-- a column of the table: its entries A(n,d), or A(n,d,w) if a weight is given, in the order of their lengths, from 1, or the weight if that is
-- greater, to MAX_N; none if no entry has the distance and the weight
unfoldable pub column : ℕ → Option ℕ → List Entry
column d w = filter is_entry (map (λ n. record { n = n; d = d; w = w }) (range_with_len 1 MAX_N))

-- the columns of a weight, or those without one, by their distances from 3 to MAX_N
unfoldable pub columns_of_weight : Option ℕ → List Entry
columns_of_weight w = flat_map (λ d. column d w) (range_with_len 3 (MAX_N - 2))

-- the entries of the table: those without weight, and then those of each weight from 0 to MAX_N
unfoldable pub table_entries : List Entry
table_entries = columns_of_weight None ++ flat_map (λ w. columns_of_weight (Some w)) (range_with_len 0 (MAX_N + 1))
