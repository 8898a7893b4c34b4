use Rattle.std.proofs.Common.{Option, sym, ap}
use Rattle.ct_sample.specs.declared.command.Command.{Command}
use Rattle.ct_sample.specs.Run.{after_command}
use Rattle.ct_sample.proofs.run.Run.apply_if_any.Goals as goal

pub returns-in-None : goal.returns-in-None
returns-in-None c = ap (λ (command : Option Command). after_command c.args.self.now command) (sym c.in-None.is)
