use Rattle.std.proofs.Common.{◌≤◌, ap, sym, subst, ◌∙◌}
use Rattle.std.proofs.lemmas.Bool.{false≢true}
use Rattle.std.proofs.lemmas.Result.{IfOk-from_err}
use Rattle.ct_kept.specs.Kept.{KeptValue, IsKept, Grew}
use Rattle.ct_kept.proofs.KeptLemmas.{Grew-refl}
use Rattle.ct_table.specs.Closing.{IsPending, HasMoreLines}
use Rattle.ct_table.specs.Inside.Turn.{potential}
use Rattle.ct_table.proofs.MoreLines.{HasMoreLines-refl}
use Rattle.ct_table.proofs.TurnLemmas.{bounds_are_true, pending_satisfied, none_found, improvement, turn_pending, turn_kept, turn_grew, turn_uses}
use Rattle.ct_table.proofs.closing.turn.Goals as goal
use Rattle.ct_table.proofs.closing.turn.Goals.{In_ok-improve}

pub returns-in_default-clause-pending : goal.returns-in_default-clause-pending
returns-in_default-clause-pending c =
    let best = c.pull-best.result in
    pending_satisfied c.args.supports.now c.args.kept.now.bounds c.args.work.now (c.args.side, c.args.entry) best.value
    (none_found c.args.supports.now c.args.kept.now (c.args.side, c.args.entry) best.value best.rule c.in_default.is c.pull-best.ensures.given)
    c.pull-best.ensures.within c.requires.pending

pub mark_from-requires-clause-true_bounds : goal.mark_from-requires-clause-true_bounds
mark_from-requires-clause-true_bounds c =
    let best = c.pull-best.result in
    let found =
    improvement c.args.supports.now c.args.kept.now c.args.side c.args.entry best.value best.rule c.in-Some.rule c.requires.entry c.in-Some.is
    c.pull-best.ensures.given c.pull-best.ensures.within in
    bounds_are_true c.args.supports.now c.improve.new.kept c.requires.stand
    (turn_kept c.args.supports.now c.args.kept.now c.improve.new.kept c.in-Some.rule c.args.entry best.value c.in_ok-improve.ensures.improved
    c.requires.kept found.1)

pub returns-clause-kept : goal.returns-clause-kept
returns-clause-kept c =
    let best = c.pull-best.result in
    let found =
    improvement c.args.supports.now c.args.kept.now c.args.side c.args.entry best.value best.rule c.in-Some.rule c.requires.entry c.in-Some.is
    c.pull-best.ensures.given c.pull-best.ensures.within in
    turn_kept c.args.supports.now c.args.kept.now c.improve.new.kept c.in-Some.rule c.args.entry best.value c.in_ok-improve.ensures.improved
    c.requires.kept found.1

pub returns-clause-grew : goal.returns-clause-grew
returns-clause-grew c =
    let best = c.pull-best.result in
    let found =
    improvement c.args.supports.now c.args.kept.now c.args.side c.args.entry best.value best.rule c.in-Some.rule c.requires.entry c.in-Some.is
    c.pull-best.ensures.given c.pull-best.ensures.within in
    turn_grew c.args.supports.now c.args.kept.now c.improve.new.kept c.in-Some.rule c.args.entry best.value c.in_ok-improve.ensures.improved
    c.requires.kept found.1

pub returns-clause-pending : goal.returns-clause-pending
returns-clause-pending c =
    let best = c.pull-best.result in
    let found =
    improvement c.args.supports.now c.args.kept.now c.args.side c.args.entry best.value best.rule c.in-Some.rule c.requires.entry c.in-Some.is
    c.pull-best.ensures.given c.pull-best.ensures.within in
    turn_pending c.args.supports.now c.args.kept.now c.improve.new.kept c.args.side c.in-Some.rule c.args.entry best.value c.args.work.now
    c.mark_from.new.work found.0 c.in_ok-improve.ensures.improved c.requires.kept found.1 c.in_ok-mark_from.ensures.kept
    c.in_ok-mark_from.ensures.tested c.requires.pending

pub returns-clause-potential : goal.returns-clause-potential
returns-clause-potential c =
    let best = c.pull-best.result in
    let found =
    improvement c.args.supports.now c.args.kept.now c.args.side c.args.entry best.value best.rule c.in-Some.rule c.requires.entry c.in-Some.is
    c.pull-best.ensures.given c.pull-best.ensures.within in
    turn_uses c.args.supports.now c.args.kept.now c.improve.new.kept c.in-Some.rule c.args.entry best.value c.args.work.now
    c.mark_from.new.work c.in_ok-improve.ensures.improved c.requires.kept found.1 c.waits_for_few.ensures

-- one line more was put
more : (c : In_ok-improve) → HasMoreLines c.args.kept.now c.improve.new.kept
more c =
    let put = c.in_ok-improve.ensures.improved in
    (ap (λ (k : KeptValue). k.base) put, (_, ap (λ (k : KeptValue). k.lines) put))

pub returns-clause-lines : goal.returns-clause-lines
returns-clause-lines c = more (goal.at.returns-clause-lines c).In_ok-improve

pub returns-in_err-improve : goal.returns-in_err-improve
returns-in_err-improve c =
    let failed = c.from_residual.ensures.0 in
    let result = c.from_residual.result in
    let kept = c.improve.new.kept in
    let work = c.args.work.now in
    record {
      kept = IfOk-from_err result (λ _. IsKept c.args.supports.now kept) failed;
      grew = IfOk-from_err result (λ _. Grew c.args.kept.now kept) failed;
      pending = IfOk-from_err result (λ _. IsPending c.args.supports.now kept.bounds work) failed;
      potential = IfOk-from_err result (λ _. potential kept.bounds work ≤ potential c.args.kept.now.bounds c.args.work.now) failed;
      lines = subst (λ (k : KeptValue). HasMoreLines c.args.kept.now k) (sym c.in_err-improve.ensures.unchanged) (HasMoreLines-refl c.args.kept.now);
    }

pub returns-in_err-mark_from : goal.returns-in_err-mark_from
returns-in_err-mark_from c =
    let failed = c.from_residual-in_err-mark_from.ensures.0 in
    let result = c.from_residual-in_err-mark_from.result in
    let kept = c.improve.new.kept in
    let work = c.mark_from.new.work in
    record {
      kept = IfOk-from_err result (λ _. IsKept c.args.supports.now kept) failed;
      grew = IfOk-from_err result (λ _. Grew c.args.kept.now kept) failed;
      pending = IfOk-from_err result (λ _. IsPending c.args.supports.now kept.bounds work) failed;
      potential = IfOk-from_err result (λ _. potential kept.bounds work ≤ potential c.args.kept.now.bounds c.args.work.now) failed;
      lines = more (goal.at.returns-in_err-mark_from c).In_ok-improve;
    }

pub returns-in_default-clause-grew : goal.returns-in_default-clause-grew
returns-in_default-clause-grew c = Grew-refl c.args.kept.now

pub returns-in_default-clause-lines : goal.returns-in_default-clause-lines
returns-in_default-clause-lines c = HasMoreLines-refl c.args.kept.now

pub returns-then-not-in_table-clause-grew : goal.returns-then-not-in_table-clause-grew
returns-then-not-in_table-clause-grew c = Grew-refl c.args.kept.now

pub returns-then-not-in_table-clause-lines : goal.returns-then-not-in_table-clause-lines
returns-then-not-in_table-clause-lines c = HasMoreLines-refl c.args.kept.now

pub returns-then-not-in_table-clause-pending : goal.returns-then-not-in_table-clause-pending
returns-then-not-in_table-clause-pending c = absurd (false≢true (c.if-not-in_table.ensures ∙ c.requires.entry))

pub mark_from-requires-clause-stand : goal.mark_from-requires-clause-stand
mark_from-requires-clause-stand c = c.requires.stand
