-- Commands whose evidence has the form of its kind.
use Rattle.ct_files.specs.Evidence.{IsSound}
use Rattle.ct_sample.specs.declared.command.Command.{Command}
use Rattle.ct_sample.specs.declared.command.Command.TheVariants.{Submit, Withdraw}

-- the evidence that the command submits, if it does, has the form of its kind
abbrev pub IsSoundCommand : Command → Type 0
IsSoundCommand (Submit id evidence) = IsSound evidence
IsSoundCommand (Withdraw id) = Unit {0}
