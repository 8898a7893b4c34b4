use Rattle.std.proofs.Common.{◌≡◌, List, sym, subst}
use Rattle.std.specs.Prelude.{Result, Ok, Err, OnOk}
use Rattle.ct_rule_parts.specs.declared.support.Support.{Support}
use Rattle.ct_rules.specs.Removal.{marked, voided}
use Rattle.ct_table.specs.Closing.{ClosingValue, CanClose, IsClosing, HasMoreLines}
use Rattle.ct_kept.specs.Kept.{KeptValue, BaseValue}
use Rattle.ct_table.specs.Inside.Removing.{IsSetBack, IsTakenOut}
use Rattle.ct_table.proofs.MoreLines.{HasMoreLines-trans}
use Rattle.ct_table.proofs.RemovalLemmas.{later_entries, CanClose-left, IsTakenOut-closed}
use Rattle.ct_table.proofs.left.settle.Goals as goal

pub keep_lines-requires : goal.keep_lines-requires
keep_lines-requires c =
    let back = c.requires.back in
    later_entries back.0 back.1 back.2 c.args.closing.now c.args.later.now back.3

pub mark_lost-requires : goal.mark_lost-requires
mark_lost-requires c =
    let back = c.requires.back in
    later_entries back.0 back.1 back.2 c.args.closing.now c.args.later.now back.3

pub close-requires-clause-closing : goal.close-requires-clause-closing
close-requires-clause-closing c =
    let back = c.requires.back in
    let before : ClosingValue =
    record { kept = c.closing.inside.kept; work = c.closing.inside.work; evaluations = c.closing.inside.evaluations } in
    let to_close : ClosingValue =
    record { kept = c.keep_lines.new.kept; work = c.mark_lost.new.work; evaluations = c.closing.inside.evaluations } in
    subst (λ (supports : List Support). CanClose supports to_close) (sym back.4)
    (CanClose-left (marked c.args.gone.now) back.0 back.1 back.2 before c.args.later.now c.keep_lines.new.kept
    c.mark_lost.new.work c.closing.inside.evaluations
    (subst (λ (k : ClosingValue). IsSetBack back.0 back.1 back.2 k c.args.later.now) (sym c.closing.view_is) back.3)
    c.in_ok-keep_lines.ensures.walked c.in_ok-mark_lost.ensures)

on_ok : {T E : Type 0} (r : Result T E) (P Q : Type 0) → (P → Q) → OnOk r P → OnOk r Q
on_ok (Ok x) P Q f h = f h
on_ok (Err e) P Q f h = h

pub returns-clause-taken : goal.returns-clause-taken
returns-clause-taken c =
    let before : ClosingValue =
    record { kept = c.closing.inside.kept; work = c.closing.inside.work; evaluations = c.closing.inside.evaluations } in
    let to_close : ClosingValue =
    record { kept = c.keep_lines.new.kept; work = c.mark_lost.new.work; evaluations = c.closing.inside.evaluations } in
    on_ok c.close.result (IsClosing c.args.supports.now to_close c.close.new.closing)
    ((full : List Support) (old : KeptValue) (base : BaseValue) → IsSetBack full old base c.args.closing.now c.args.later.now
    → c.args.supports.now ≡ voided (marked c.args.gone.now) full → IsTakenOut (marked c.args.gone.now) full old c.close.new.closing)
    (λ closed full old base back is.
    IsTakenOut-closed (marked c.args.gone.now) full old base before c.args.later.now to_close c.close.new.closing
    (subst (λ (k : ClosingValue). IsSetBack full old base k c.args.later.now) (sym c.closing.view_is) back)
    c.in_ok-keep_lines.ensures.walked
    (subst (λ (supports : List Support). IsClosing supports to_close c.close.new.closing) is closed))
    c.close.ensures.closed

pub returns-clause-lines : goal.returns-clause-lines
returns-clause-lines c =
    subst (λ (k : ClosingValue). HasMoreLines k.kept c.close.new.closing.kept) c.closing.view_is
    (HasMoreLines-trans c.closing.inside.kept c.keep_lines.new.kept c.close.new.closing.kept c.keep_lines.ensures.lines c.close.ensures.lines)
