use Rattle.std.proofs.Common.{◌≡◌, ◌++◌, List, false, take, drop, All, sym, ap, subst, ◌∙◌}
use Rattle.std.proofs.lemmas.Result.{IfOk-from_err, on_ok_weaker}
use Rattle.ct_rule_parts.specs.declared.support.Support.{Support}
use Rattle.ct_rules.specs.Derivation.{LineValue}
use Rattle.ct_rules.specs.Rule.{named_place}
use Rattle.ct_rules.specs.Removal.{names_one, marked, voided}
use Rattle.ct_slots.specs.Worklist.{WorkValue, IsIdle}
use Rattle.ct_kept.specs.Kept.{KeptValue, BaseValue, UndoValue, set_back}
use Rattle.ct_kept.proofs.LineLemmas.{kept_in}
use Rattle.ct_table.specs.Closing.{ClosingValue, HasMoreLines}
use Rattle.ct_table.specs.Table.{IsTable}
use Rattle.ct_table.specs.Inside.Removing.{IsSetBack, IsTakenOut}
use Rattle.ct_table.proofs.Failures.{on_ok, on_err, not_err}
use Rattle.ct_table.proofs.RemovalLemmas.{put_back-same}
use Rattle.ct_table.proofs.UnnamedPlaces.{IsTakenOut-unnamed, HasMoreLines-whole}
use Rattle.ct_table.proofs.left.take_out.Goals as goal
use Rattle.ct_table.proofs.left.take_out.Goals.{After-later, then-is_err, else-is_err}

pub returns-then-not-names-clause-taken : goal.returns-then-not-names-clause-taken
returns-then-not-names-clause-taken c = λ full table is.
    IsTakenOut-unnamed (marked c.args.gone.now) full c.args.base.now c.args.closing.now table
    (subst (λ (k : ClosingValue). All (λ (l : LineValue). names_one (marked c.args.gone.now) (named_place l.rule) ≡ false) (drop k.kept.base k.kept.lines))
    c.closing.view_is (c.names.ensures.0 c.if-not-names.true))

pub returns-then-not-names-clause-lines : goal.returns-then-not-names-clause-lines
returns-then-not-names-clause-lines c = HasMoreLines-whole c.args.base.now c.args.closing.now.kept

-- what was set back, before the later lines are put again
is_set_back : (c : After-later) (full : List Support) → IsTable full c.args.closing.now.kept c.args.base.now c.args.closing.now.work
    → IsSetBack full c.args.closing.now.kept c.args.base.now
    (record { kept = c.set_back.new.self; work = c.closing.inside.work; evaluations = c.closing.inside.evaluations }) c.later.result.now
is_set_back c full table = record {
  table =
      subst (λ (k : WorkValue). IsTable full c.args.closing.now.kept c.args.base.now k) (sym (ap (λ (k : ClosingValue). k.work) c.closing.view_is)) table;
  back = c.in_ok-undo.ensures.back ∙ ap (λ (k : ClosingValue). set_back c.args.base.now k.kept) c.closing.view_is;
  later_are =
      c.later.ensures ∙ ap (λ (u : UndoValue). u.later) c.in_ok-undo.ensures.undo
      ∙ ap (λ (k : ClosingValue). drop k.kept.base k.kept.lines) c.closing.view_is;
}

pub settle-done-requires : goal.settle-done-requires
settle-done-requires c = record {
  back = (
    c.requires.table.0,
    c.args.closing.now.kept,
    c.args.base.now,
    is_set_back (goal.at.settle-done-requires c).After-later c.requires.table.0 c.requires.table.1,
    c.requires.table.2,
  );
  places = c.requires.places;
}

pub returns-clause-taken : goal.returns-clause-taken
returns-clause-taken c = elim c.if-is_err.branch [
  | then-is_err w ↦
      IfOk-from_err c.settle-done.result
      (λ _. (full : List Support) → IsTable full c.args.closing.now.kept c.args.base.now c.args.closing.now.work
      → c.args.supports.now ≡ voided (marked c.args.gone.now) full
      → IsTakenOut (marked c.args.gone.now) full c.args.closing.now.kept c.if-is_err.closing)
      (sym c.is_err.ensures.value ∙ w.if-is_err.true)
  | else-is_err w ↦
      on_ok_weaker c.settle-done.result
      (λ (taken : (full : List Support) (old : KeptValue) (base : BaseValue)
      → IsSetBack full old base (record { kept = c.set_back.new.self; work = c.closing.inside.work; evaluations = c.closing.inside.evaluations }) c.later.result.now
      → c.args.supports.now ≡ voided (marked c.args.gone.now) full → IsTakenOut (marked c.args.gone.now) full old c.settle-done.new.closing) full table is.
      subst (λ (k : ClosingValue). IsTakenOut (marked c.args.gone.now) full c.args.closing.now.kept k) (sym w.closing-is)
      (taken full c.args.closing.now.kept c.args.base.now (is_set_back (goal.at.returns-clause-taken c).After-later full table) is))
      c.settle-done.ensures.taken
]

pub returns-clause-lines : goal.returns-clause-lines
returns-clause-lines c = elim c.if-is_err.branch [
  | then-is_err w ↦
      IfOk-from_err c.settle-done.result (λ _. HasMoreLines (set_back c.args.base.now c.args.closing.now.kept) c.if-is_err.closing.kept)
      (sym c.is_err.ensures.value ∙ w.if-is_err.true)
  | else-is_err w ↦
      on_ok c.settle-done.result
      (subst (λ (k : ClosingValue). HasMoreLines (set_back c.args.base.now c.args.closing.now.kept) k.kept) (sym w.closing-is)
      (subst (λ (k : KeptValue). HasMoreLines k c.settle-done.new.closing.kept)
      (c.in_ok-undo.ensures.back ∙ ap (λ (k : ClosingValue). set_back c.args.base.now k.kept) c.closing.view_is) c.settle-done.ensures.lines))
]

-- what is put back where memory runs out
abbrev undo_of : KeptValue → UndoValue
undo_of kept = record { bounds = kept.bounds; reasons = kept.reasons; later = drop kept.base kept.lines }

pub returns-clause-unchanged : goal.returns-clause-unchanged
returns-clause-unchanged c = elim c.if-is_err.branch [
  | then-is_err w ↦
      on_err c.settle-done.result
      (let now = w.closing-then-is_err.inside.kept in
      let base = c.args.base.now in
      let back = c.in_ok-undo.ensures.back ∙ ap (λ (k : ClosingValue). set_back base k.kept) c.closing.view_is in
      let undo = c.in_ok-undo.ensures.undo ∙ ap (λ (k : ClosingValue). undo_of k.kept) c.closing.view_is in
      let more =
      subst (λ (k : ClosingValue). HasMoreLines (set_back base c.args.closing.now.kept) k.kept) (sym w.closing-then-is_err.view_is)
      (subst (λ (k : KeptValue). HasMoreLines k c.settle-done.new.closing.kept) back c.settle-done.ensures.lines) in
      ap (λ (k : ClosingValue). k.kept) w.closing-is ∙ w.put_back.ensures
      ∙ ap (λ (u : UndoValue). kept_in u.bounds u.reasons (take now.base now.lines ++ u.later) now.base) undo
      ∙ put_back-same c.requires.table.0 c.args.closing.now.kept base c.args.closing.now.work now c.requires.table.1 more)
  | else-is_err w ↦
      not_err c.settle-done.result (c.if-is_err.closing.kept ≡ c.args.closing.now.kept) (sym c.is_err.ensures.value ∙ w.if-is_err.false)
]

pub returns-clause-idle : goal.returns-clause-idle
returns-clause-idle c = elim c.if-is_err.branch [
  | then-is_err w ↦ on_err c.settle-done.result (subst (λ (k : ClosingValue). IsIdle k.work) (sym w.closing-is) w.clear.ensures)
  | else-is_err w ↦ not_err c.settle-done.result (IsIdle c.if-is_err.closing.work) (sym c.is_err.ensures.value ∙ w.if-is_err.false)
]
