-- The marks that are written back are those that were made.
use Rattle.std.proofs.Common.{Bool, List, ◌++◌, ◌+◌, length, take, drop, subst, sym, ap, ◌∙◌}
use Rattle.std.proofs.Math.Seq.{take-append_seam}
use Rattle.ct_derive.specs.Pruning.{AreMarked}
use Rattle.ct_reasons.proofs.marking.needed_lines.Goals as goal

pub returns-clause-size : goal.returns-clause-size
returns-clause-size c =
    let marks = c.mark_needed.new.marks in
    let old = drop (length marks) c.in_ok-marks.marks.items in
    let written = ap (λ size. take size (marks ++ old)) (sym (c.mark_needed.auto.marks ∙ c.deref_mut.ensures.len)) ∙ take-append_seam marks old in
    ap length written ∙ c.mark_needed.auto.marks ∙ c.deref_mut.ensures.len ∙ c.in_ok-marks.ensures.len

pub returns-clause-needed : goal.returns-clause-needed
returns-clause-needed c =
    let marks = c.mark_needed.new.marks in
    let old = drop (length marks) c.in_ok-marks.marks.items in
    let written = ap (λ size. take size (marks ++ old)) (sym (c.mark_needed.auto.marks ∙ c.deref_mut.ensures.len)) ∙ take-append_seam marks old in
    subst (λ (ms : List Bool). AreMarked (take (c.args.last + 1) c.args.table.now.lines) ms) (sym written) c.mark_needed.ensures
