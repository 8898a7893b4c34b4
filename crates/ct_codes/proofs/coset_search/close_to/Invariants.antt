use Rattle.std.proofs.Common.{◌+◌, ◌*◌, ◌^◌, length}
use Rattle.ct_codes.specs.Inside.First.{NonePasses}
use Rattle.ct_codes.specs.Inside.Span.{is_close_choice}
use Rattle.ct_codes.proofs.coset_search.close_to.Given as goal

-- no choice of the representatives so far is close
abbrev pub invariant-loop-other : goal.invariant-loop-other
invariant-loop-other l =
    NonePasses (is_close_choice l.d l.basis l.representatives l.place) (l.place * 2 ^ length l.basis + 1) (l.other * 2 ^ length l.basis)
