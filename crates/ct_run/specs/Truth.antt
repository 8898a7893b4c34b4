-- That what an output says of codes is true.
use Rattle.std.specs.Prelude.{ℕ, List, Option, IfSome}
use Rattle.std.specs.Io.KnownBytes.{Appends}
use Rattle.ct_session.specs.Truth.{IsTrueAnswer, AreAnswers}
use Rattle.ct_session.specs.TrueLines.{IsTrueReason}
use Rattle.ct_verify.specs.Verification.{IsTrueVerdict}
use Rattle.ct_find.specs.Truth.{AreTrueReplies}
use Rattle.ct_sample.specs.Truth.{AreTrueSums}
use Rattle.ct_command_line.specs.declared.mode.Mode.{Mode}
use Rattle.ct_command_line.specs.declared.mode.Mode.TheVariants.{Session, Verify, Find, Sample}

-- if the unread bytes of the source are known, what the sink holds grew by an output that is so related to them, as far as its bytes are known
abbrev pub WritesAs : (List ℕ → List ℕ → Type 0) → Option (List ℕ) → Option (List ℕ) → Option (List ℕ) → Type 0
WritesAs IsOutputOn left old new = IfSome left (λ input. (output : List ℕ) × IsOutputOn input output × Appends old new output)

-- what the output of a mode on an input says of codes is true
abbrev pub IsTrueOutput : Mode → List ℕ → List ℕ → Type 0
IsTrueOutput Session input output = AreAnswers IsTrueAnswer input output × AreAnswers IsTrueReason input output
IsTrueOutput Verify input output = IsTrueVerdict input output
IsTrueOutput Find input output = AreTrueReplies input output
IsTrueOutput (Sample number) input output = AreTrueSums output
