use Rattle.ct_commands.proofs.WrittenSubmissions.{parts_are}
use Rattle.ct_commands.proofs.submission.submission_parts.Goals as goal

pub returns : goal.returns
returns c = parts_are c.args.id.now c.args.count.now c.args.document.now c.requires
