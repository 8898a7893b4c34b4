use Rattle.std.proofs.Common.{◌==◌, ◌∙◌}
use Rattle.ct_sample.proofs.Applying.{bit_is}
use Rattle.ct_sample.proofs.Summaries.{tally_more}
use Rattle.ct_sample.proofs.tally.with_entry.Goals as goal

pub returns-clause-tally : goal.returns-clause-tally
returns-clause-tally c = λ best entries are is.
    rw (c.from-2.ensures, c.from-3.ensures)
    (tally_more c.args.table.now.supports best c.args.tally entries c.args.entry c.from.result c.lower-lower.result c.upper-upper.result are c.requires.entry c.lower-lower.ensures.best c.upper-upper.ensures.best
    (c.from.ensures ∙ bit_is (c.lower-lower.result == c.upper-upper.result)) is)
