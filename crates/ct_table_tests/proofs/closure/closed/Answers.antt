use Rattle.ct_table_tests.proofs.closure.closed.Goals as goal

pub close-requires-clause-closing : goal.close-requires-clause-closing
close-requires-clause-closing c = record {
  stand = c.requires.stand;
  few = c.requires.few;
  kept = c.in_ok-closing.ensures.kept c.args.supports.now;
  pending = c.in_ok-closing.ensures.pending c.args.supports.now c.requires.stand;
}
