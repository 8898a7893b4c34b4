use Rattle.std.proofs.Common.{◌+◌, List, Bool, length, take, ap, subst, sym, ◌∙◌}
use Rattle.std.proofs.lemmas.Result.{IfOk-weaker}
use Rattle.ct_rule_parts.specs.Slot.{slot_of}
use Rattle.ct_rules.specs.Derivation.{LineValue}
use Rattle.ct_derive.specs.Explanation.{IsExplanation}
use Rattle.ct_derive.specs.Pruning.{AreMarked}
use Rattle.ct_reasons.proofs.TableLines.{explained_in_table}
use Rattle.ct_reasons.proofs.explaining.lines_to.Goals as goal

pub returns : goal.returns
returns c = λ l at.
    let table = c.args.table.now in
    let same = c.deref.ensures.value in
    let size = ap (λ (marks : List Bool). length marks) same ∙ c.in_ok-marks.ensures.size in
    let marked = subst (λ (marks : List Bool). AreMarked (take (c.args.last + 1) c.args.table.now.lines) marks) (sym same) c.in_ok-marks.ensures.needed in
    let explained = explained_in_table table c.requires.table c.args.last l at c.deref.result.now size marked in
    IfOk-weaker c.marked_lines.result _ _
    (λ lines is.
    subst (λ (ls : List LineValue). IsExplanation c.args.table.now.supports (slot_of l.claim) l.claim.value ls) (sym is) explained)
    c.marked_lines.ensures
