use Rattle.ct_io.proofs.LinesLemmas.{AreLines-lines_of, lines_of-from_next, whole_lines-ended}
use Rattle.ct_io.proofs.lines.lines_law.Goals as goal

pub returns-clause-made_of_lines : goal.returns-clause-made_of_lines
returns-clause-made_of_lines c = AreLines-lines_of

pub returns-clause-next_is_first : goal.returns-clause-next_is_first
returns-clause-next_is_first c = lines_of-from_next

pub returns-clause-whole : goal.returns-clause-whole
returns-clause-whole c = whole_lines-ended
