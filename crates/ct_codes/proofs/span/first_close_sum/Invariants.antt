use Rattle.std.proofs.Common.{◌*◌}
use Rattle.ct_codes.specs.Inside.First.{NonePasses}
use Rattle.ct_codes.specs.Inside.Span.{is_close_sum}
use Rattle.ct_codes.proofs.span.first_close_sum.Given as goal

-- no sum of the moves so far is close
abbrev pub invariant-loop-step : goal.invariant-loop-step
invariant-loop-step l = NonePasses (is_close_sum l.d l.basis l.word) (64 * l.from) (64 * l.step)
