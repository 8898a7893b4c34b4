use Rattle.std.proofs.Common.{◌≡◌, ◌≤◌, ◌+◌, length}
use Rattle.ct_io.specs.Lines.{lines_of}
use Rattle.ct_verify.specs.Inside.Verdict.{verdict_of, verdict_from}
use Rattle.ct_verify.proofs.verifying.first_verdict.Given as goal

-- the verdict on what is left, after what was read, is the verdict; a text line's number is no greater than the bytes before it and one
abbrev pub invariant-loop-rest : goal.invariant-loop-rest
invariant-loop-rest l = record {
  verdict : verdict_from l.reading l.number (lines_of l.rest) ≡ verdict_of l.document;
  small : l.number + length l.rest ≤ length l.document + 1;
}

abbrev pub decreases-loop-rest : goal.decreases-loop-rest
decreases-loop-rest l = length l.rest
