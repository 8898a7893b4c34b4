use Rattle.std.proofs.Common.{◌≡◌, IfOk, Some, None, sym, ap, subst, ◌∙◌}
use Rattle.ct_rule_parts.specs.Entries.{listed}
use Rattle.ct_rules.specs.declared.rule.Rule.{Rule}
use Rattle.ct_rules.specs.Rule.{value_of}
use Rattle.ct_derive.specs.Check.{line_fault, value_fault}
use Rattle.ct_derive.proofs.CheckedLines.{defined_fault, undefined_fault}
use Rattle.ct_derive.proofs.check.line_fault.Goals as goal

pub returns-in-M9 : goal.returns-in-M9
returns-in-M9 c =
    let supports = c.args.supports.now in
    let before = c.args.before.now in
    subst
    (λ (r : Rule). IfOk c.class_fault.result (λ fault. fault ≡ line_fault c.args.supports.now c.args.before.now c.args.claim r c.args.numbers.now))
    (sym c.in-M9.is) (c.class_fault.ensures supports before)

pub returns-in_default-defined_on : goal.returns-in_default-defined_on
returns-in_default-defined_on c =
    undefined_fault c.args.supports.now c.args.before.now c.args.claim c.args.rule c.args.numbers.now
    (rw c.in_default-defined_on.is at c.defined_on.ensures)

pub returns-in_default-2 : goal.returns-in_default-2
returns-in_default-2 c =
    let defined = rw c.in-Some.is at c.defined_on.ensures in
    let values = rw (c.in_default-2.is, c.rule_side.ensures) at c.in_ok-values.ensures in
    defined_fault c.args.supports.now c.args.before.now c.args.claim c.args.rule c.args.numbers.now (listed c.in-Some.entries) None defined values

pub returns : goal.returns
returns c =
    let claim = c.args.claim in
    let defined = rw c.in-Some.is at c.defined_on.ensures in
    let values = rw (c.in-Some-2.is, c.rule_side.ensures) at c.in_ok-values.ensures in
    c.value_fault.ensures
    ∙ ap (value_fault claim.value) (c.value.ensures.value ∙ ap (value_of c.args.supports.now c.args.rule claim.entry) c.as_slice.ensures)
    ∙ defined_fault c.args.supports.now c.args.before.now claim c.args.rule c.args.numbers.now (listed c.in-Some.entries)
    (Some c.in-Some-2.values.items) defined values
