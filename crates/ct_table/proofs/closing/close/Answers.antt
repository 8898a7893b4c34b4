use Rattle.std.proofs.Common.{sym, ap, subst, ◌∙◌}
use Rattle.ct_table.specs.Closing.{ClosingValue, IsPending, HasMoreLines}
use Rattle.ct_kept.specs.Kept.{IsKept, Grew}
use Rattle.ct_table.proofs.TurnLemmas.{closed_when_idle}
use Rattle.ct_table.proofs.closing.close.Goals as goal

pub returns-clause-closed : goal.returns-clause-closed
returns-clause-closed c = record {
  kept = c.in_ok-run.ensures.kept;
  base = c.run.ensures.lines.0 ∙ ap (λ (x : ClosingValue). x.kept.base) c.closing.view_is;
  grew = subst (λ (x : ClosingValue). Grew x.kept c.run.new.kept) c.closing.view_is c.in_ok-run.ensures.grew;
  idle = c.in_ok-run.ensures.idle;
  closed = closed_when_idle c.args.supports.now c.run.new.kept.bounds c.run.new.work c.in_ok-run.ensures.pending c.in_ok-run.ensures.idle;
}

pub run-requires-clause-kept : goal.run-requires-clause-kept
run-requires-clause-kept c = subst (λ (x : ClosingValue). IsKept c.args.supports.now x.kept) (sym c.closing.view_is) c.requires.closing.kept

pub returns-clause-lines : goal.returns-clause-lines
returns-clause-lines c = subst (λ (x : ClosingValue). HasMoreLines x.kept c.run.new.kept) c.closing.view_is c.run.ensures.lines

pub run-requires-clause-pending : goal.run-requires-clause-pending
run-requires-clause-pending c =
    subst (λ (x : ClosingValue). IsPending c.args.supports.now x.kept.bounds x.work) (sym c.closing.view_is) c.requires.closing.pending
