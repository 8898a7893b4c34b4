use Rattle.std.proofs.Common.{◌+◌, Bool, true, false, List, length, take, ap, subst, sym, ◌∙◌}
use Rattle.std.specs.Prelude.{slice_set}
use Rattle.std.proofs.lemmas.List.{length-replicate, length-set}
use Rattle.ct_derive.specs.Pruning.{AreMarkedFrom, AreMarked}
use Rattle.ct_derive.proofs.MarkedLines.{begun}
use Rattle.ct_reasons.proofs.marking.mark_needed.Goals as goal

pub returns : goal.returns
returns c =
    let all = c.args.table.now.lines in
    let last = c.args.last in
    let marks = slice_set c.args.marks.now last true in
    let size = length-set c.args.marks.now last true ∙ ap (λ (ms : List Bool). length ms) c.requires.none ∙ length-replicate (last + 1) false in
    let first = begun all last c.args.marks.now c.requires.none c.requires.last in
    subst (λ n. AreMarked (take n all) c.mark_all.new.marks) size
    (c.mark_all.ensures (subst (λ n. AreMarkedFrom n (take n all) marks) (sym size) first))
