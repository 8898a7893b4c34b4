use Rattle.std.proofs.Common.{◌-◌}
use Rattle.std.specs.List.{AllZip}
use Rattle.ct_session.specs.Reply.{AreBoundsOf}
use Rattle.ct_words.proofs.ColumnLemmas.{column_to}
use Rattle.ct_run.proofs.answering.replies.column_of.Given as goal

abbrev pub invariant-loop-n : goal.invariant-loop-n
invariant-loop-n l = AllZip (AreBoundsOf l.ledger.pieces) (column_to l.numbers.d l.numbers.w (l.n - 1)) l.list.items
