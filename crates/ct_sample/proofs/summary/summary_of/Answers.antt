use Rattle.std.proofs.Common.{length, ap, ◌∙◌, arith}
use Rattle.ct_words.proofs.ListedEntries.{count}
use Rattle.ct_sample.proofs.Summaries.{summary_is}
use Rattle.ct_sample.proofs.summary.summary_of.Goals as goal

pub tally_of-requires-clause-few : goal.tally_of-requires-clause-few
tally_of-requires-clause-few c =
    let long = ap length c.requires.listed ∙ count in
    omega (arith, long)

pub returns : goal.returns
returns c =
    let few = c.standing.ensures.few in
    rw (c.accepted.ensures, c.withdrawn.ensures)
    (summary_is c.args.number c.args.run.now c.table.result.now.supports c.args.entries.now c.tally_of.result _ c.requires.run c.table.ensures c.requires.listed
    c.tally_of.ensures c.standing.ensures.count)
