use Rattle.std.proofs.Common.{List, ◌++◌, ap, ◌∙◌, take_all}
use Rattle.std.specs.List.{flat_map}
use Rattle.ct_text.proofs.GrowingTexts.{Grows-trans}
use Rattle.ct_replies.specs.Text.{bounds_line}
use Rattle.ct_replies.specs.declared.reply.Bounds.{Bounds}
use Rattle.ct_replies.proofs.Puts.{puts-item}
use Rattle.ct_replies.proofs.text.put_column.Goals as goal

pub loop-bounds-preserved : goal.loop-bounds-preserved
loop-bounds-preserved c =
    puts-item bounds_line c.args.column.now c.loop-bounds.bounds-index _ _ _ _ c.loop-bounds-test.true c.loop-bounds.invariant
    c.in_ok-put_line.ensures.ok

pub returns-in_err-put_line-clause-grown : goal.returns-in_err-put_line-clause-grown
returns-in_err-put_line-clause-grown c = Grows-trans _ _ _ (_, c.loop-bounds.invariant) c.in_err-put_line.ensures.grown

pub returns-clause-ok : goal.returns-clause-ok
returns-clause-ok c =
    c.loop-bounds.invariant
    ∙ ap (λ (column : List Bounds). c.args.text.now.items ++ flat_map bounds_line column)
    (take_all c.loop-bounds.bounds-index c.args.column.now c.loop-bounds-test.false)

pub returns-clause-grown : goal.returns-clause-grown
returns-clause-grown c = (_, c.loop-bounds.invariant)
