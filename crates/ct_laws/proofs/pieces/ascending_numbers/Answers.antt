use Rattle.ct_kind.proofs.AscendingLemmas.{ascending-moved, ascending-sorted}
use Rattle.ct_laws.proofs.pieces.ascending_numbers.Goals as goal

pub returns-clause-numbers : goal.returns-clause-numbers
returns-clause-numbers c = ascending-moved

pub returns-clause-order : goal.returns-clause-order
returns-clause-order c = ascending-sorted
