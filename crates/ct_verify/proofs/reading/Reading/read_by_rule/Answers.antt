use Rattle.std.proofs.Common.{sym, ap, ◌∙◌}
use Rattle.ct_verify.specs.Inside.Reading.{by_rule}
use Rattle.ct_verify.proofs.FailedLines.{failed_so}
use Rattle.ct_verify.proofs.reading.Reading.read_by_rule.Goals as goal

pub returns-in_default : goal.returns-in_default
returns-in_default c = failed_so _ _ c.failure.ensures ∙ ap (by_rule c.args.self.now c.args.number c.args.line) (sym c.in_default.is)
