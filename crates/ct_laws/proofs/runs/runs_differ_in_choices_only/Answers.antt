use Rattle.std.proofs.Common.{◌≡◌, ℕ, Bool, List, [], ◌∙◌, sym, subst}
use Rattle.ct_commands.specs.declared.command.Command.{Command}
use Rattle.ct_commands.proofs.Inputs.{asked_once}
use Rattle.ct_session.specs.Run.{AreReplies, AnswersCommands, IsRun}
use Rattle.ct_laws.proofs.Uniqueness.{differ_in_choices, as_many, one_mark_only, one_text_only}
use Rattle.ct_laws.proofs.runs.runs_differ_in_choices_only.Goals as goal

-- the commands of the other run are the same
same_commands : (input output other : List ℕ) (a b : Bool) (h : IsRun input output a) (k : IsRun input other b) → k.commands ≡ h.commands
same_commands input output other a b h k = sym (asked_once _ _ k.commands k.asked) ∙ asked_once _ _ h.commands h.asked

same_replies : (input output other : List ℕ) (a b : Bool) (h : IsRun input output a) (k : IsRun input other b) → AreReplies [] h.commands k.answers.replies
same_replies input output other a b h k = subst (λ (cs : List Command). AreReplies [] cs k.answers.replies) (same_commands input output other a b h k) k.answers.are

same_answers : (input output other : List ℕ) (a b : Bool) (h : IsRun input output a) (k : IsRun input other b) → AnswersCommands [] h.commands other b
same_answers input output other a b h k = subst (λ (cs : List Command). AnswersCommands [] cs other b) (same_commands input output other a b h k) k.answers

pub returns-clause-replies : goal.returns-clause-replies
returns-clause-replies c = λ input output other a b h k.
    differ_in_choices [] h.commands h.answers.replies k.answers.replies h.answers.are (same_replies input output other a b h k)

pub returns-clause-as_many : goal.returns-clause-as_many
returns-clause-as_many c = λ input output other a b h k.
    as_many [] h.commands h.answers.replies k.answers.replies h.answers.are (same_replies input output other a b h k)

pub returns-clause-refused : goal.returns-clause-refused
returns-clause-refused c = λ input output other a b h k. one_mark_only [] h.commands output other a b h.answers (same_answers input output other a b h k)

pub returns-clause-output : goal.returns-clause-output
returns-clause-output c = λ input output other a b h none k. one_text_only [] h.commands output other a b none h.answers (same_answers input output other a b h k)
