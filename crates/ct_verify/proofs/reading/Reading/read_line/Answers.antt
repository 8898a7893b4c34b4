use Rattle.std.proofs.Common.{◌≡◌, ℕ, ◌+◌, length, rules, Option, ap, sym, subst, ◌∙◌}
use Rattle.std.specs.Prelude.{IfOk, IfSome}
use Rattle.ct_rules.specs.Rule.{rule_side}
use Rattle.ct_verify.specs.Inside.Read.{ReadingValue}
use Rattle.ct_verify.specs.Inside.StatedLine.{StatedLineValue}
use Rattle.ct_verify.specs.Stated.{resolved}
use Rattle.ct_verify.specs.Inside.Steps.{step_of}
use Rattle.ct_verify.specs.Inside.Step.{AfterLine}
use Rattle.ct_verify.specs.Inside.Reading.{read_line}
use Rattle.ct_verify.proofs.FailedLines.{failed_so}
use Rattle.ct_verify.proofs.LineSteps.{other_number}
use Rattle.ct_verify.proofs.RuleSides.{HasItsSide, resolved-sides}
use Rattle.ct_verify.proofs.ReadingLemmas.{next_number}
use Rattle.ct_verify.proofs.reading.Reading.read_line.Goals as goal

pub read_by_rule-requires : goal.read_by_rule-requires
read_by_rule-requires c =
    resolved-sides c.self.inside.pieces c.line.inside.rule.rule c.line.inside.rule.id c.in-Some.line.claim.side c.over-rule.result c.over-rule.ensures
    (ap (λ (l : StatedLineValue). rule_side l.rule.rule) c.line.view_is
    ∙ subst (λ (o : Option StatedLineValue). IfSome o HasItsSide) c.in-Some.is c.requires)

pub returns : goal.returns
returns c =
    let lines_are : c.len.result ≡ length c.self.inside.lines.items = search rules in
    subst (λ (next : AfterLine). IfOk c.read_by_rule.result (λ failure. step_of failure c.read_by_rule.new.self ≡ next))
    (next_number c.args.self.now c.args.number c.in-Some.line c.args.line c.over-rule.result c.in-Some.is
    (sym (ap (λ (l : StatedLineValue). l.number) c.line.view_is) ∙ c.if-line-len.false
    ∙ ap (λ (n : ℕ). n + 1) (lines_are ∙ ap (λ (r : ReadingValue). length r.lines) c.self.view_is))
    (c.over-rule.ensures
    ∙ ap (λ (r : ReadingValue). resolved r.pieces c.line.inside.rule.rule c.line.inside.rule.id) c.self.view_is
    ∙ ap (λ (l : StatedLineValue). resolved c.args.self.now.pieces l.rule.rule l.rule.id) c.line.view_is))
    c.read_by_rule.ensures

pub returns-in_default : goal.returns-in_default
returns-in_default c = failed_so _ _ c.failure.ensures ∙ ap (read_line c.args.self.now c.args.number) (sym c.in_default.is)

pub returns-then-line-len : goal.returns-then-line-len
returns-then-line-len c =
    let lines_are : c.len.result ≡ length c.self.inside.lines.items = search rules in
    failed_so _ _ c.failure-then-line-len.ensures
    ∙ other_number c.args.self.now c.args.number c.in-Some.line c.args.line c.in-Some.is
    (λ is. c.if-line-len.true
    (ap (λ (l : StatedLineValue). l.number) c.line.view_is ∙ is
    ∙ ap (λ (n : ℕ). n + 1) (sym (lines_are ∙ ap (λ (r : ReadingValue). length r.lines) c.self.view_is))))
