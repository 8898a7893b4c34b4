use Rattle.std.proofs.Common.{◌+◌, ◌*◌}
use Rattle.ct_kept.specs.Inside.Started.{IsStarted}
use Rattle.ct_kept.proofs.kept.Kept.put_with_weight.Given as goal

-- the slots with smaller numbers have their ground lines
abbrev pub invariant-loop-k : goal.invariant-loop-k
invariant-loop-k l = IsStarted (l.first + l.k * (l.n + 1)) l.self
