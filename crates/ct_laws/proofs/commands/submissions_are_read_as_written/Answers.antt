use Rattle.ct_commands.proofs.WrittenSubmissions.{written_is_read}
use Rattle.ct_laws.proofs.commands.submissions_are_read_as_written.Goals as goal

pub returns : goal.returns
returns c = written_is_read
