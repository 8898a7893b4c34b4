use Rattle.std.proofs.Common.{◌≡◌, ◌-◌, ◌++◌}
use Rattle.ct_words.proofs.ColumnLemmas.{column_to}
use Rattle.ct_words.proofs.entries.put_column.Given as goal

abbrev pub invariant-loop-n : goal.invariant-loop-n
invariant-loop-n l = l.entries.items ≡ l.fn.entries.items ++ column_to l.d l.w (l.n - 1)
