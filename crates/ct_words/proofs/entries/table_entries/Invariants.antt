use Rattle.std.proofs.Common.{◌≡◌, ℕ, ◌++◌, Some, None, flat_map}
use Rattle.std.specs.List.{range_with_len}
use Rattle.ct_words.specs.TableEntries.{columns_of_weight}
use Rattle.ct_words.proofs.entries.table_entries.Given as goal

abbrev pub invariant-loop-w : goal.invariant-loop-w
invariant-loop-w l = l.entries.items ≡ columns_of_weight None ++ flat_map (λ (w : ℕ). columns_of_weight (Some w)) (range_with_len 0 l.w)
