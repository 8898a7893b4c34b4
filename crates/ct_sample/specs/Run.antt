-- The run of the sample: what its commands leave. The document of a piece is written from its evidence, and nothing else is said of it; so the run
-- speaks of the pieces without their documents.
use Rattle.std.specs.Prelude.{ℕ, zero, suc, ◌+◌, if◌then◌else◌, List, [], Option, Some, None, Result, Ok, is_ok, map}
use Rattle.ct_piece.specs.Piece.{PieceValue}
use Rattle.ct_kind.specs.declared.evidence.Evidence.{Evidence}
use Rattle.ct_files.specs.Document.{without_cites}
use Rattle.ct_piece.specs.Submission.{made_over, with_piece}
use Rattle.ct_piece.specs.Withdrawal.{withdrawn, left_by}
use Rattle.ct_kind.specs.declared.fault.SubmitFault.{SubmitFault}
use Rattle.ct_piece.specs.declared.fault.WithdrawFault.{WithdrawFault}
use Rattle.ct_sample.specs.Random.{drawn}
use Rattle.ct_sample.specs.Command.{command_drawn}
use Rattle.ct_sample.specs.declared.command.Command.{Command}
use Rattle.ct_sample.specs.declared.command.Command.TheVariants.{Submit, Withdraw}

-- a piece without its document
abbrev pub without_document : PieceValue → PieceValue
without_document p = record { id = p.id; document = []; evidence = p.evidence; cites = p.cites; entry = p.entry; size = p.size }

-- pieces without their documents
abbrev pub without_documents : List PieceValue → List PieceValue
without_documents pieces = map without_document pieces

-- what evidence makes over pieces, without its document: what a submission makes of each document without cites that reads as it, but for the
-- document
unfoldable pub made_without_document : List PieceValue → List ℕ → Evidence → Result PieceValue SubmitFault
made_without_document pieces id evidence = made_over pieces id [] (Ok (without_cites evidence))

-- what commands leave: the pieces that stand, without their documents, how many submissions were accepted, and how many withdrawals were made
pub record RunValue : Type 0 where
  pub pieces : List PieceValue
  pub accepted : ℕ
  pub withdrawn : ℕ

-- before the first command
abbrev pub no_commands : RunValue
no_commands = record { pieces = []; accepted = 0; withdrawn = 0 }

-- after a submission
abbrev pub after_submission : RunValue → Result PieceValue SubmitFault → RunValue
after_submission run made =
    record { pieces = with_piece run.pieces made; accepted = run.accepted + (if is_ok made then 1 else 0); withdrawn = run.withdrawn }

-- after a withdrawal
abbrev pub after_withdrawal : RunValue → Result (List PieceValue) WithdrawFault → RunValue
after_withdrawal run left =
    record { pieces = left_by run.pieces left; accepted = run.accepted; withdrawn = run.withdrawn + (if is_ok left then 1 else 0) }

-- after a command, where there is one
abbrev pub after_command : RunValue → Option Command → RunValue
after_command run None = run
after_command run (Some (Submit id evidence)) = after_submission run (made_without_document run.pieces id evidence)
after_command run (Some (Withdraw id)) = after_withdrawal run (withdrawn run.pieces id)

-- after so many steps of the sample of a number of commands
unfoldable pub run_to : ℕ → ℕ → RunValue
run_to number zero = no_commands
run_to number (suc step) = after_command (run_to number step) (command_drawn (suc step) (drawn number (suc step)) (run_to number step).pieces)
