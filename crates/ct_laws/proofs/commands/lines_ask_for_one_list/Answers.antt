use Rattle.std.proofs.Common.{sym, ◌∙◌}
use Rattle.ct_commands.specs.Command.{asked_for}
use Rattle.ct_commands.proofs.Inputs.{asked_once, asked_so}
use Rattle.ct_laws.proofs.commands.lines_ask_for_one_list.Goals as goal

pub returns-clause-some : goal.returns-clause-some
returns-clause-some c = λ last lines. (asked_for last lines, asked_so last lines)

pub returns-clause-one : goal.returns-clause-one
returns-clause-one c = λ last lines first second h k. sym (asked_once last lines first h) ∙ asked_once last lines second k

pub returns-clause-input : goal.returns-clause-input
returns-clause-input c = λ lines. asked_so _ lines
