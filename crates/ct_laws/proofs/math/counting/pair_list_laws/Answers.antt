-- The laws of lists of pairs, each a lemma of proofs/Pairings.antt.
use Rattle.ct_laws.proofs.Mathematics.Pairings.{pair_lists-each, pair_lists-all, pair_lists-once}
use Rattle.ct_laws.proofs.math.counting.pair_list_laws.Goals as goal

pub returns-clause-each : goal.returns-clause-each
returns-clause-each c = pair_lists-each

pub returns-clause-all : goal.returns-clause-all
returns-clause-all c = pair_lists-all

pub returns-clause-once : goal.returns-clause-once
returns-clause-once c = pair_lists-once
