use Rattle.std.proofs.Common.{◌≡◌, ℕ, ◌-◌, ◌++◌, flat_map}
use Rattle.std.specs.List.{range_with_len}
use Rattle.ct_words.specs.TableEntries.{column}
use Rattle.ct_words.proofs.entries.put_columns.Given as goal

abbrev pub invariant-loop-d : goal.invariant-loop-d
invariant-loop-d l = l.entries.items ≡ l.fn.entries.items ++ flat_map (λ (d : ℕ). column d l.w) (range_with_len 3 (l.d - 3))
