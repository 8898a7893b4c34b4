use Rattle.std.proofs.Common.{sym, ◌∙◌, arith}
use Rattle.ct_words.proofs.ColumnLemmas.{entry_at}
use Rattle.ct_session.proofs.BoundLemmas.{named_is_entry, column_more, column_same, column_whole}
use Rattle.ct_run.proofs.answering.replies.column_of.Goals as goal
use Rattle.ct_run.proofs.answering.replies.column_of.Goals.{in-Some+in_ok-push, in_default}

pub loop-n-preserved : goal.loop-n-preserved
loop-n-preserved c =
    elim c.match-entry.branch [
      | in-Some+in_ok-push w ↦
          rw (w.list-is, w.in_ok-push.ensures.items)
          (column_more c.args.ledger.now.pieces c.args.numbers.d c.args.numbers.w c.loop-n.n w.in-Some.entry c.loop-n.list.items w.bounds_of.result c.loop-n.auto.n
          (sym w.in-Some.is ∙ c.entry.ensures) c.loop-n.invariant w.bounds_of.ensures)
      | in_default w ↦
          rw w.list-is
          (column_same c.args.ledger.now.pieces c.args.numbers.d c.args.numbers.w c.loop-n.n c.loop-n.list.items c.loop-n.auto.n
          (sym w.in_default.is ∙ c.entry.ensures) c.loop-n.invariant)
    ]

pub bounds_of-requires : goal.bounds_of-requires
bounds_of-requires c = named_is_entry (entry_at c.args.numbers.d c.args.numbers.w c.loop-n.n) c.in-Some.entry (sym c.in-Some.is ∙ c.entry.ensures)

pub returns : goal.returns
returns c =
    rw c.from_vec.ensures (column_whole c.args.ledger.now.pieces c.args.numbers.d c.args.numbers.w c.loop-n.n c.loop-n.list.items (omega arith) c.loop-n.invariant)
