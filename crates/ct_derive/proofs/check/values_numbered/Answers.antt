use Rattle.std.proofs.Common.{List, ℕ, ◌≤◌, ◌++◌, length, option_map, sym, ap, subst, ◌∙◌}
use Rattle.ct_rule_parts.specs.Entries.{listed}
use Rattle.ct_derive.specs.Check.{values_numbered}
use Rattle.ct_derive.proofs.NumberedLines.{values-no_entry, values-too_few, values-begin, values-more, values-no_value, values-end}
use Rattle.ct_derive.proofs.check.values_numbered.Goals as goal

pub returns-in_default : goal.returns-in_default
returns-in_default c =
    sym (c.loop-place.invariant
    ∙ ap (option_map (λ (more : List ℕ). c.loop-place.values.items ++ more))
    (values-no_entry c.args.side c.args.before.now (listed c.args.entries) c.args.numbers.now c.loop-place.place
    (sym c.get.ensures ∙ c.in_default.is) c.loop-place-test.true))

pub loop-place-init : goal.loop-place-init
loop-place-init c =
    values-begin (values_numbered c.args.side c.args.before.now (listed c.args.entries) c.args.numbers.now) c.new-values.result.items c.new-values.ensures.items

pub loop-place-preserved : goal.loop-place-preserved
loop-place-preserved c =
    values-more c.args.side c.args.before.now (listed c.args.entries) c.args.numbers.now c.loop-place.place
    (values_numbered c.args.side c.args.before.now (listed c.args.entries) c.args.numbers.now) c.loop-place.values.items c.loop-place.invariant
    c.in-Some.entry c.in-Some-value_numbered.value c.push.new.self.items (sym c.get.ensures ∙ c.in-Some.is) c.loop-place-test.true
    (sym c.value_numbered.ensures ∙ c.in-Some-value_numbered.is) c.in_ok-push.ensures.ok

pub returns-in_default-value_numbered : goal.returns-in_default-value_numbered
returns-in_default-value_numbered c =
    values-no_value c.args.side c.args.before.now (listed c.args.entries) c.args.numbers.now c.loop-place.place
    (values_numbered c.args.side c.args.before.now (listed c.args.entries) c.args.numbers.now) c.loop-place.values.items c.loop-place.invariant
    c.in-Some.entry (sym c.get.ensures ∙ c.in-Some.is) c.loop-place-test.true (sym c.value_numbered.ensures ∙ c.in_default-value_numbered.is)

pub returns-then-numbers-len : goal.returns-then-numbers-len
returns-then-numbers-len c =
    sym (values-too_few c.args.side c.args.before.now (listed c.args.entries) c.args.numbers.now (rw c.len.ensures.count at c.if-numbers-len.true))

pub returns : goal.returns
returns c =
    values-end c.args.side c.args.before.now (listed c.args.entries) c.args.numbers.now c.loop-place.place
    (values_numbered c.args.side c.args.before.now (listed c.args.entries) c.args.numbers.now) c.loop-place.values.items c.loop-place.invariant
    c.loop-place-test.false (subst (λ n. n ≤ length c.args.numbers.now) c.len.ensures.count c.if-numbers-len.false)
