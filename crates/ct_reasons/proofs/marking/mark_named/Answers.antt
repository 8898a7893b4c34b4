use Rattle.std.proofs.Common.{◌<◌, ℕ, Bool, List, All, length, take, sym, ap, subst, ◌∙◌, arith}
use Rattle.std.proofs.lemmas.List.Elements.{All-weaker}
use Rattle.ct_rules.specs.Derivation.{LineValue}
use Rattle.ct_derive.specs.Pruning.{with_marks, AreMarkedFrom}
use Rattle.ct_derive.proofs.PrunedLines.{get_of_take}
use Rattle.ct_derive.proofs.MarkedLines.{named_below_line, AreMarked-unmarked, AreMarked-marked}
use Rattle.ct_reasons.proofs.marking.mark_named.Goals as goal

pub returns-then-not-marks-place : goal.returns-then-not-marks-place
returns-then-not-marks-place c = λ h.
    AreMarked-unmarked c.args.place (take (length c.args.marks.now) c.args.table.now.lines) c.args.marks.now c.if-not-marks-place.true h

pub mark-requires : goal.mark-requires
mark-requires c =
    let from = c.as_slice.ensures ∙ ap (λ (l : LineValue). l.from) c.behind-table.view_is in
    let below = named_below_line c.args.table.now.supports c.args.table.now.lines c.args.place c.line.result.now c.line.ensures.derivation c.line.ensures.line in
    subst (λ (places : List ℕ). All (λ p. p < length c.args.marks.now) places) (sym from)
    (All-weaker (λ p. p < c.args.place) (λ p. p < length c.args.marks.now) (λ p lower. omega arith) c.line.result.now.from below)

pub returns : goal.returns
returns c = λ h.
    let l = c.line.result.now in
    let lines = c.args.table.now.lines in
    let n = length c.args.marks.now in
    let from = c.as_slice.ensures ∙ ap (λ (l : LineValue). l.from) c.behind-table.view_is in
    let below = named_below_line c.args.table.now.supports lines c.args.place l c.line.ensures.derivation c.line.ensures.line in
    let at = get_of_take lines n c.args.place c.requires.place ∙ c.line.ensures.line in
    let marks_are = c.mark.ensures ∙ ap (λ (places : List ℕ). with_marks places c.args.marks.now) from in
    subst (λ (marks : List Bool). AreMarkedFrom c.args.place (take n lines) marks) (sym marks_are)
    (AreMarked-marked c.args.place l (take n lines) c.args.marks.now c.if-not-marks-place.false at below h)
