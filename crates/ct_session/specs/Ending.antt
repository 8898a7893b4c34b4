-- How the serving of a session ends.
use Rattle.std.specs.Prelude.{◌≡◌, ◌≤◌, ◌+◌, ◌↔◌, ℕ, Bool, List, length, Option, Result, Err, IfOk, OnOk}
use Rattle.std.specs.Io.KnownBytes.{IsAtEnd}
use Rattle.ct_io.specs.declared.TheConstants.{MAX_INPUT, MAX_READ}
use Rattle.ct_io.specs.Faults.{Rose}
use Rattle.ct_io.specs.Told.{WhereTold, IsAboveLimit}
use Rattle.ct_session.specs.Serve.{WritesRun, WritesRunPrefix, WritesRunProperPrefix, AnswersTaken, AnswersButLastBytes, WritesWholeReplies}
use Rattle.ct_io.specs.declared.run_fault.RunFault.{RunFault}
use Rattle.ct_io.specs.declared.run_fault.RunFault.TheVariants.{Read, Write, TooLong, Memory}

-- how it ends: what was written and taken, and what each fault says
pub record Ends (result : Result Bool RunFault) (left now old new : Option (List ℕ)) (reads reads' writes writes' : ℕ) : Type 0 where
  pub run : IfOk result (WritesRun left old new)
  pub to_end : OnOk result (IsAtEnd now)
  pub prefix : WritesRunPrefix left old new
  pub written_in_part : result ≡ Err Write → WritesRunProperPrefix left old new
  pub taken_answered : result ≡ Err Read → AnswersTaken left now old new
  pub last_bytes_unanswered : result ≡ Err TooLong → AnswersButLastBytes left now old new
  pub whole_replies : result ≡ Err Memory → WritesWholeReplies left now old new
  pub read_fault : result ≡ Err Read → Rose reads reads'
  pub write_fault : result ≡ Err Write → Rose writes writes'
  pub too_long : WhereTold left now (λ before after. (result ≡ Err TooLong) ↔ IsAboveLimit before after)
  pub one_read_past : WhereTold left now (λ before after. length before ≤ length after + MAX_INPUT + MAX_READ)
