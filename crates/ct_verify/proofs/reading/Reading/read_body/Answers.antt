use Rattle.std.proofs.Common.{◌≡◌, refl, subst, rules, true, false, get_or, sym, ap, ◌∙◌}
use Rattle.std.specs.Str.{bytes_eq}
use Rattle.std.specs.Prelude.{IfOk}
use Rattle.ct_verify.specs.Inside.Steps.{step_of}
use Rattle.ct_verify.specs.Inside.Reading.{read_line, read_heading}
use Rattle.ct_verify.specs.Inside.Read.{ReadingValue, in_part}
use Rattle.ct_verify.specs.declared.part.Part.TheVariants as part
use Rattle.ct_verify.specs.Inside.Step.{AfterLine, On}
use Rattle.ct_verify.proofs.FailedLines.{failed_so, failed_without_words}
use Rattle.ct_verify.proofs.LineSteps.{otherwise, lined, headed}
use Rattle.ct_verify.proofs.RuleSides.{line_of-sides}
use Rattle.ct_verify.proofs.reading.Reading.read_body.Goals as goal

pub read_line-requires : goal.read_line-requires
read_line-requires c = search (rules, line_of-sides)

pub returns-in_default : goal.returns-in_default
returns-in_default c =
    failed_so _ _ c.failure.ensures ∙ failed_without_words c.args.self.now c.args.number c.args.words.now (λ word. word.now) c.in_default.len_below

pub returns-then-is_end : goal.returns-then-is_end
returns-then-is_end c =
    ap (λ (r : ReadingValue). On (in_part part.Done r)) c.self.view_is
    ∙ otherwise c.args.self.now c.args.number c.args.words.now (λ word. word.now) _ true c.in-len1-up.len_at_least
    (sym (c.eq.ensures ∙ ap (bytes_eq (get_or c.args.words.now 0 _).now) c.as_slice.ensures) ∙ c.if-eq.false)
    (sym (c.eq-2.ensures ∙ ap (bytes_eq (get_or c.args.words.now 0 _).now) c.as_slice-2.ensures) ∙ c.if-eq-2.false)
    (sym c.is_end.ensures ∙ c.if-is_end.true)

pub returns : goal.returns
returns c =
    failed_so _ _ c.failure-2.ensures
    ∙ otherwise c.args.self.now c.args.number c.args.words.now (λ word. word.now) _ false c.in-len1-up.len_at_least
    (sym (c.eq.ensures ∙ ap (bytes_eq (get_or c.args.words.now 0 _).now) c.as_slice.ensures) ∙ c.if-eq.false)
    (sym (c.eq-2.ensures ∙ ap (bytes_eq (get_or c.args.words.now 0 _).now) c.as_slice-2.ensures) ∙ c.if-eq-2.false)
    (sym c.is_end.ensures ∙ c.if-is_end.false)

pub returns-then-eq : goal.returns-then-eq
returns-then-eq c =
    subst (λ (step : AfterLine). IfOk c.read_line.result (λ failure. step_of failure c.read_line.new.self ≡ step))
    (ap (read_line c.args.self.now c.args.number) c.in_ok-line.ensures
    ∙ lined c.args.self.now c.args.number c.args.words.now _ (λ word. word.now) _ c.in-len1-up.len_at_least refl
    (sym (c.eq.ensures ∙ ap (bytes_eq (get_or c.args.words.now 0 _).now) c.as_slice.ensures) ∙ c.if-eq.true))
    c.read_line.ensures

pub returns-then-eq-2 : goal.returns-then-eq-2
returns-then-eq-2 c =
    c.read_heading.ensures
    ∙ ap (read_heading c.args.self.now c.args.number) c.parse_heading.ensures
    ∙ headed c.args.self.now c.args.number c.args.words.now _ (λ word. word.now) _ c.in-len1-up.len_at_least refl
    (sym (c.eq.ensures ∙ ap (bytes_eq (get_or c.args.words.now 0 _).now) c.as_slice.ensures) ∙ c.if-eq.false)
    (sym (c.eq-2.ensures ∙ ap (bytes_eq (get_or c.args.words.now 0 _).now) c.as_slice-2.ensures) ∙ c.if-eq-2.true)
