use Rattle.std.proofs.Common.{sym, subst}
use Rattle.std.proofs.lemmas.Result.{IfOk-from_err}
use Rattle.ct_slots.specs.Worklist.{WorkValue, IsIdle}
use Rattle.ct_kept.specs.Kept.{IsKept, Grew}
use Rattle.ct_kept.proofs.KeptLemmas.{Grew-refl, Grew-trans}
use Rattle.ct_table.specs.Closing.{IsPending}
use Rattle.ct_table.proofs.MoreLines.{HasMoreLines-refl}
use Rattle.ct_table.proofs.TurnLemmas.{pending_taken, more_lines-trans}
use Rattle.ct_table.proofs.closing.run.Goals as goal

pub turn-requires : goal.turn-requires
turn-requires c = record {
  entry = c.in-Some.ensures.entry;
  stand = c.requires.stand;
  places = c.requires.places;
  kept = c.loop-side.invariant.0;
  pending =
      pending_taken c.args.supports.now c.loop-side.kept.bounds c.loop-side.work c.take.new.self (c.in-Some.side, c.in-Some.entry)
      c.in-Some.ensures.entry c.in-Some.ensures.others c.loop-side.invariant.2;
}

pub loop-side-init : goal.loop-side-init
loop-side-init c = (c.requires.kept, Grew-refl c.args.kept.now, c.requires.pending, HasMoreLines-refl c.args.kept.now)

pub loop-side-preserved : goal.loop-side-preserved
loop-side-preserved c = (
  c.in_ok-turn.ensures.kept,
  Grew-trans c.args.supports.now c.args.kept.now c.loop-side.kept c.turn.new.kept c.requires.kept c.loop-side.invariant.0
      c.in_ok-turn.ensures.kept c.loop-side.invariant.1 c.in_ok-turn.ensures.grew,
  c.in_ok-turn.ensures.pending,
  more_lines-trans c.args.kept.now c.loop-side.kept c.turn.new.kept c.loop-side.invariant.3 c.turn.ensures.lines,
)

pub returns : goal.returns
returns c =
    let same = sym c.in_default.ensures.unchanged in
    record {
      kept = c.loop-side.invariant.0;
      grew = c.loop-side.invariant.1;
      idle = subst IsIdle same c.in_default.ensures.idle;
      pending = subst (λ (work : WorkValue). IsPending c.args.supports.now c.loop-side.kept.bounds work) same c.loop-side.invariant.2;
      lines = c.loop-side.invariant.3;
    }

pub returns-in_err-turn : goal.returns-in_err-turn
returns-in_err-turn c =
    let failed = c.from_residual.ensures.0 in
    let result = c.from_residual.result in
    record {
      kept = IfOk-from_err result (λ _. IsKept c.args.supports.now c.turn.new.kept) failed;
      grew = IfOk-from_err result (λ _. Grew c.args.kept.now c.turn.new.kept) failed;
      idle = IfOk-from_err result (λ _. IsIdle c.turn.new.work) failed;
      pending = IfOk-from_err result (λ _. IsPending c.args.supports.now c.turn.new.kept.bounds c.turn.new.work) failed;
      lines = more_lines-trans c.args.kept.now c.loop-side.kept c.turn.new.kept c.loop-side.invariant.3 c.turn.ensures.lines;
    }
