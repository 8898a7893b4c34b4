use Rattle.std.proofs.Common.{rules}
use Rattle.ct_commands.proofs.Forms.{idle}
use Rattle.ct_commands.proofs.command_reader.is_idle.Goals as goal

pub returns-in-None-clause-open : goal.returns-in-None-clause-open
returns-in-None-clause-open c = rw c.in-None.is (λ e. (idle c.args.line.now (search rules)).0)

pub returns-in-None-clause-none : goal.returns-in-None-clause-none
returns-in-None-clause-none c = rw c.in-None.is (λ e. (idle c.args.line.now (search rules)).1)
