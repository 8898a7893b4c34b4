use Rattle.std.proofs.Common.{◌≡◌, List, ℕ, ap, ◌∙◌, subst}
use Rattle.std.specs.Io.KnownBytes.{Appends}
use Rattle.std.proofs.KnownBytes.{Consumes-whole}
use Rattle.ct_io.specs.Told.{AppendsProperPrefix}
use Rattle.ct_verify.specs.Inside.Verdict.{verdict_of}
use Rattle.ct_verify.specs.Verification.{is_no, verdict_line}
use Rattle.ct_verify.proofs.LimitLemmas.{never_too_long, no_fault}
use Rattle.ct_verify.proofs.verification.verify_source.Goals as goal

pub returns-in_err-write_text-clause-written_in_part : goal.returns-in_err-write_text-clause-written_in_part
returns-in_err-write_text-clause-written_in_part g c = λ is.
    let in_part = AppendsProperPrefix (g.K.Sink.holds c.args.sink.now) (g.K.Sink.holds c.write_text.new.sink) in
    let text = c.deref-2.ensures.value ∙ c.in_ok-line.ensures ∙ ap verdict_line (c.in_ok-verdict.ensures.verdict ∙ ap verdict_of c.deref.ensures.value) in
    Consumes-whole (g.S.Source.left c.args.source.now) (g.S.Source.left c.read_input.new.source) c.in_ok-input.input.items
    (λ (input : List ℕ). in_part (verdict_line (verdict_of input)))
    c.in_ok-input.ensures.input c.in_ok-input.ensures.to_end
    (subst in_part text c.in_err-write_text.ensures.unwritten)

pub returns-clause-verdict : goal.returns-clause-verdict
returns-clause-verdict g c =
    Consumes-whole (g.S.Source.left c.args.source.now) (g.S.Source.left c.read_input.new.source) c.in_ok-input.input.items
    (λ (input : List ℕ). c.is_no-refused.result ≡ is_no (verdict_of input))
    c.in_ok-input.ensures.input c.in_ok-input.ensures.to_end
    (c.is_no-refused.ensures ∙ ap is_no (c.in_ok-verdict.ensures.verdict ∙ ap verdict_of c.deref.ensures.value))

pub returns-clause-written : goal.returns-clause-written
returns-clause-written g c =
    let whole = Appends (g.K.Sink.holds c.args.sink.now) (g.K.Sink.holds c.write_text.new.sink) in
    let text = c.deref-2.ensures.value ∙ c.in_ok-line.ensures ∙ ap verdict_line (c.in_ok-verdict.ensures.verdict ∙ ap verdict_of c.deref.ensures.value) in
    Consumes-whole (g.S.Source.left c.args.source.now) (g.S.Source.left c.read_input.new.source) c.in_ok-input.input.items
    (λ (input : List ℕ). whole (verdict_line (verdict_of input)))
    c.in_ok-input.ensures.input c.in_ok-input.ensures.to_end
    (subst whole text c.in_ok-write_text.ensures.written)

pub returns-clause-to_end : goal.returns-clause-to_end
returns-clause-to_end g c = c.in_ok-input.ensures.to_end

pub returns-clause-written_in_part : goal.returns-clause-written_in_part
returns-clause-written_in_part g c = λ is. absurd (no_fault _ _ is)

pub returns-clause-read_fault : goal.returns-clause-read_fault
returns-clause-read_fault g c = λ is. absurd (no_fault _ _ is)

pub returns-clause-write_fault : goal.returns-clause-write_fault
returns-clause-write_fault g c = λ is. absurd (no_fault _ _ is)

pub returns-clause-too_long : goal.returns-clause-too_long
returns-clause-too_long g c =
    never_too_long c.in_ok-input.input c.is_no-refused.result (g.S.Source.left c.args.source.now)
    (g.S.Source.left c.read_input.new.source) c.in_ok-input.ensures.too_long
