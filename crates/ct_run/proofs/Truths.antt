-- What an output says of codes is true, mode by mode.
use Rattle.std.proofs.Common.{◌≡◌, ℕ, Bool, List, Option, Some, None, IfSome, subst}
use Rattle.ct_find.proofs.Truths.{found_is_true}
use Rattle.ct_verify.proofs.Truths.{verdict_is_true}
use Rattle.ct_sample.proofs.Truths.{sums_are_true}
use Rattle.ct_session.specs.Truth.{IsTrueAnswer}
use Rattle.ct_session.specs.TrueLines.{IsTrueReason}
use Rattle.ct_session.proofs.Truths.{run_answers, true_answer}
use Rattle.ct_session.proofs.TrueReasons.{true_reason}
use Rattle.ct_command_line.specs.declared.mode.Mode.{Mode}
use Rattle.ct_command_line.specs.declared.mode.Mode.TheVariants.{Session, Verify, Find, Sample}
use Rattle.ct_run.specs.declared.status.Status.{Status}
use Rattle.ct_run.specs.Mode.{input_for, IsOutput, IsRunStatus, WritesOn, WritesOutput}
use Rattle.ct_run.specs.Truth.{WritesAs, IsTrueOutput}

-- an output of a mode is true
pub outputs_are_true : (mode : Mode) (input output : List ℕ) (refused : Bool) → IsOutput mode input output refused → IsTrueOutput mode input output
outputs_are_true Session input output refused h =
    (run_answers IsTrueAnswer true_answer input output refused h, run_answers IsTrueReason true_reason input output refused h)
outputs_are_true Verify input output refused (v, is, written, mark) = verdict_is_true input output v is written
outputs_are_true Find input output refused h = found_is_true input output refused h
outputs_are_true (Sample number) input output refused h = sums_are_true number output h.0

-- what was written of an output is true
written : (IsTrueOn : List ℕ → List ℕ → Type 0) (mode : Mode) (left old new : Option (List ℕ)) (result : Status)
    → ((input output : List ℕ) → IsTrueOutput mode input output → IsTrueOn input output) → WritesOn mode left old new result → WritesAs IsTrueOn left old new
written IsTrueOn mode None old new result truth h = tt
written IsTrueOn mode (Some input) old new result truth (output, refused, is, status, appends) =
    (output, truth input output (outputs_are_true mode input output refused is), appends)

-- what a run wrote in the mode that is named is true
pub run_is_true : (IsTrueOn : List ℕ → List ℕ → Type 0) (mode : Mode) (named : Option Mode) (left old new : Option (List ℕ)) (result : Status)
    → ((input output : List ℕ) → IsTrueOutput mode input output → IsTrueOn input output) → IfSome named (λ m. IsRunStatus result → WritesOutput m left old new result)
    → named ≡ Some mode → IsRunStatus result → WritesAs IsTrueOn (input_for mode left) old new
run_is_true IsTrueOn mode named left old new result truth run is done =
    written IsTrueOn mode (input_for mode left) old new result truth
    (subst (λ (n : Option Mode). IfSome n (λ m. IsRunStatus result → WritesOutput m left old new result)) is run done)
