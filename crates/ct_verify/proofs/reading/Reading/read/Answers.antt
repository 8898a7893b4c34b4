use Rattle.std.proofs.Common.{map, sym, ap, ◌∙◌}
use Rattle.std.specs.Prelude.{codes}
use Rattle.ct_verify.specs.Inside.Read.{ReadingValue, in_part}
use Rattle.ct_verify.specs.Inside.Reading.{is_only}
use Rattle.ct_verify.specs.declared.part.Part.{Part}
use Rattle.ct_verify.specs.declared.part.Part.TheVariants as part
use Rattle.ct_verify.specs.Inside.Step.{On}
use Rattle.ct_verify.proofs.FailedLines.{failed_so, failed_at_done, failed_at_start}
use Rattle.ct_verify.proofs.LineSteps.{started}
use Rattle.ct_verify.proofs.reading.Reading.read.Goals as goal

pub returns-in-Start : goal.returns-in-Start
returns-in-Start c =
    let start = sym (ap (λ (r : ReadingValue). r.part) c.self.view_is) ∙ sym c.replace.ensures.value ∙ c.in-Start.is in
    let words = ap (map (λ word. word.now)) c.deref.ensures.value ∙ c.in_ok-words-in-Start.ensures in
    failed_so _ _ c.failure.ensures
    ∙ failed_at_start c.args.self.now c.args.number c.args.text.now start
    (ap (is_only (codes "derivation")) (sym words) ∙ sym c.is_only.ensures ∙ c.if-is_only.false)

pub returns : goal.returns
returns c =
    let done = sym (ap (λ (r : ReadingValue). r.part) c.self.view_is) ∙ sym c.replace.ensures.value ∙ c.in-Done.is in
    failed_so _ _ c.failure-in-Done.ensures ∙ failed_at_done c.args.self.now c.args.number c.args.text.now done

pub returns-then-is_only : goal.returns-then-is_only
returns-then-is_only c =
    let start = sym (ap (λ (r : ReadingValue). r.part) c.self.view_is) ∙ sym c.replace.ensures.value ∙ c.in-Start.is in
    let words = ap (map (λ word. word.now)) c.deref.ensures.value ∙ c.in_ok-words-in-Start.ensures in
    ap (λ (p : Part). On (record { pieces = c.self.inside.pieces; lines = c.self.inside.lines.items; part = p })) c.replace.ensures.after
    ∙ ap (λ (r : ReadingValue). On (in_part part.Body r)) c.self.view_is
    ∙ started c.args.self.now c.args.number c.args.text.now start
    (ap (is_only (codes "derivation")) (sym words) ∙ sym c.is_only.ensures ∙ c.if-is_only.true)
