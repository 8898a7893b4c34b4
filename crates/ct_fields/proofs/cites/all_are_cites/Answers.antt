use Rattle.std.proofs.Common.{sym, ◌∙◌}
use Rattle.ct_fields.specs.Cites.{cite_in}
use Rattle.ct_fields.proofs.ReadLists.{all_have-more, all_have-none, all_have-end}
use Rattle.ct_fields.proofs.cites.all_are_cites.Goals as goal

pub loop-value-preserved : goal.loop-value-preserved
loop-value-preserved c =
    all_have-more cite_in c.args.values.now c.loop-value.value-index _ c.loop-value.invariant c.value-item.result c.loop-value-test.true c.value-item.is
    (sym c.is_cite_value.ensures ∙ c.if-not-is_cite_value.false)

pub returns-then-not-is_cite_value : goal.returns-then-not-is_cite_value
returns-then-not-is_cite_value c =
    all_have-none cite_in c.args.values.now c.loop-value.value-index _ c.loop-value.invariant c.value-item.result c.loop-value-test.true c.value-item.is
    (sym c.is_cite_value.ensures ∙ c.if-not-is_cite_value.true)

pub returns : goal.returns
returns c = all_have-end cite_in c.args.values.now c.loop-value.value-index _ c.loop-value.invariant c.loop-value-test.false
