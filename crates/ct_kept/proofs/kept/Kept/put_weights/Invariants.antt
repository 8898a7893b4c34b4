use Rattle.std.proofs.Common.{◌+◌}
use Rattle.ct_kept.specs.Inside.Started.{IsStarted}
use Rattle.ct_kept.proofs.kept.Kept.put_weights.Given as goal

-- the slots with smaller numbers have their ground lines
abbrev pub invariant-loop-w : goal.invariant-loop-w
invariant-loop-w l = IsStarted (l.first + l.w) l.self
