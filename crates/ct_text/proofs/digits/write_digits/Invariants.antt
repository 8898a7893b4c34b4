use Rattle.std.proofs.Common.{◌+◌, ◌≡◌, ◌<◌, ◌^◌, ◌++◌, drop, length}
use Rattle.std.specs.Fmt.{decimal}
use Rattle.ct_text.proofs.digits.write_digits.Given as goal

-- the digits that are written follow those of the rest, and there is room for these
abbrev pub invariant-loop-rest : goal.invariant-loop-rest
invariant-loop-rest l = (length l.digits ≡ 20) × (l.at < 20) × (l.rest < 10 ^ (l.at + 1)) × (decimal l.rest ++ drop (l.at + 1) l.digits ≡ decimal l.fn.number)

abbrev pub decreases-loop-rest : goal.decreases-loop-rest
decreases-loop-rest l = l.rest
