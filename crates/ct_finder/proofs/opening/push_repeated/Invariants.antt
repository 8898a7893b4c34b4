use Rattle.std.proofs.Common.{◌≡◌, ◌++◌, replicate}
use Rattle.ct_finder.proofs.opening.push_repeated.Given as goal

-- as many as turns
abbrev pub invariant-loop : goal.invariant-loop
invariant-loop l = l.entries.items ≡ l.fn.entries.items ++ replicate l.counter l.entry
