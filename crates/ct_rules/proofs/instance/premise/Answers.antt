use Rattle.std.proofs.Common.{◌≡◌, List, Option, Some, sym, ap, subst, ◌∙◌}
use Rattle.std.specs.Prelude.{IfSome, slice_get}
use Rattle.ct_words.specs.declared.claim.Side.{Side}
use Rattle.ct_words.specs.declared.entry.Entry.{Entry}
use Rattle.ct_words.specs.Entry.{IsEntry}
use Rattle.ct_rule_parts.specs.Slot.{Slot}
use Rattle.ct_rules.specs.Rule.{rule_side, parts_over}
use Rattle.ct_rules.proofs.Applied.{defined_entries, entry_at, premise-given, premise-none}
use Rattle.ct_rules.proofs.instance.premise.Goals as goal

pub returns-clause-premise : goal.returns-clause-premise
returns-clause-premise c =
    let a = c.args in
    let on = defined_entries a.supports.now a.rule a.entry c.defined_on.result c.in_ok-defined_on.field-0 c.defined_on.ensures c.in_ok-defined_on.was in
    ap (λ (s : Side). Some (s, c.in_ok-there.there)) c.rule_side.ensures
    ∙ sym (premise-given a.supports.now a.rule a.entry a.j c.in_ok-there.there on.0
    (ap (λ (es : List Entry). slice_get es a.j) on.1 ∙ sym c.get.ensures ∙ c.in_ok-there.was))

pub returns-clause-entry : goal.returns-clause-entry
returns-clause-entry c =
    let a = c.args in
    let on = defined_entries a.supports.now a.rule a.entry c.defined_on.result c.in_ok-defined_on.field-0 c.defined_on.ensures c.in_ok-defined_on.was in
    entry_at (parts_over a.supports.now a.rule) a.entry a.j c.in_ok-there.there on.0
    (ap (λ (es : List Entry). slice_get es a.j) on.1 ∙ sym c.get.ensures ∙ c.in_ok-there.was)

pub returns-in_err-there-clause-premise : goal.returns-in_err-there-clause-premise
returns-in_err-there-clause-premise c =
    let a = c.args in
    let on = defined_entries a.supports.now a.rule a.entry c.defined_on.result c.in_ok-defined_on.field-0 c.defined_on.ensures c.in_ok-defined_on.was in
    c.from_residual-in_err-there.ensures
    ∙ sym (premise-none a.supports.now a.rule a.entry a.j on.0
    (ap (λ (es : List Entry). slice_get es a.j) on.1 ∙ sym c.get.ensures ∙ c.in_err-there.was))

pub returns-in_err-there-clause-entry : goal.returns-in_err-there-clause-entry
returns-in_err-there-clause-entry c =
    subst (λ (o : Option Slot). IfSome o (λ s. IsEntry s.1)) (sym c.from_residual-in_err-there.ensures) tt

pub returns-in_err-there-clause-side : goal.returns-in_err-there-clause-side
returns-in_err-there-clause-side c =
    subst (λ (o : Option Slot). IfSome o (λ s. s.0 ≡ rule_side c.args.rule)) (sym c.from_residual-in_err-there.ensures) tt

pub returns-in_err-defined_on-clause-entry : goal.returns-in_err-defined_on-clause-entry
returns-in_err-defined_on-clause-entry c = subst (λ (o : Option Slot). IfSome o (λ s. IsEntry s.1)) (sym c.from_residual.ensures) tt

pub returns-in_err-defined_on-clause-side : goal.returns-in_err-defined_on-clause-side
returns-in_err-defined_on-clause-side c =
    subst (λ (o : Option Slot). IfSome o (λ s. s.0 ≡ rule_side c.args.rule)) (sym c.from_residual.ensures) tt
