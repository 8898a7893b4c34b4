-- What answers the commands that are found line by line answers those that the lines ask for.
use Rattle.std.proofs.Common.{◌≡◌, ℕ, Bool, List, [], ◌++◌, Option, Some, None, refl, sym, subst, ap, ◌∙◌, append-nil}
use Rattle.ct_commands.specs.Command.{completed, open_after_all, at_last, asked_for}
use Rattle.ct_commands.specs.declared.command.Command.{Command}
use Rattle.ct_commands.specs.declared.command_reader.Pending.{Pending}
use Rattle.ct_commands.proofs.Inputs.{asked_once, asked_so}
use Rattle.ct_session.specs.Run.{AnswersCommands, AnswersAll}

pub answers_all : (last : List Command) (lines : List (List ℕ)) (text : List ℕ) (refused : Bool) → AnswersCommands [] (asked_for last lines) text refused → AnswersAll last lines text refused
answers_all last lines text refused h = record { commands = asked_for last lines; asked = asked_so last lines; answers = h }

-- and the other way round
pub all_answered : (last : List Command) (lines : List (List ℕ)) (text : List ℕ) (refused : Bool) → AnswersAll last lines text refused → AnswersCommands [] (asked_for last lines) text refused
all_answered last lines text refused h =
    subst (λ (cs : List Command). AnswersCommands [] cs text refused) (sym (asked_once last lines h.commands h.asked)) h.answers

-- where a submission that is open at their end asks for nothing, they ask for the commands that they complete
nothing_last : (pending : Option Pending) → at_last [] pending ≡ []
nothing_last None = refl
nothing_last (Some p) = refl

pub completed_alone : (lines : List (List ℕ)) → asked_for [] lines ≡ completed None lines
completed_alone lines = ap (λ (cs : List Command). completed None lines ++ cs) (nothing_last (open_after_all None lines)) ∙ append-nil (completed None lines)

pub whole_answered : (lines : List (List ℕ)) (text : List ℕ) (refused : Bool) → AnswersCommands [] (completed None lines) text refused → AnswersAll [] lines text refused
whole_answered lines text refused h =
    answers_all [] lines text refused (subst (λ (cs : List Command). AnswersCommands [] cs text refused) (sym (completed_alone lines)) h)
