use Rattle.std.proofs.Common.{Option, sym, ap, ◌∙◌, arith}
use Rattle.ct_verify.specs.Inside.Steps.{step_of}
use Rattle.ct_verify.specs.declared.failure.Failure.{Failure}
use Rattle.ct_verify.proofs.VerdictLemmas.{on_next, failed_next}
use Rattle.ct_verify.proofs.verifying.first_verdict.Goals as goal

pub returns-in-Some : goal.returns-in-Some
returns-in-Some c =
    sym (failed_next c.loop-rest.reading c.loop-rest.number c.in-Some.failure.line c.in-Some.failure.why
    c.loop-rest.rest.now c.next_line.result.0.now c.next_line.result.1.now c.next_line.ensures.line
    (sym c.in_ok-failure.ensures ∙ ap (λ (f : Option Failure). step_of f c.read.new.self) c.in-Some.is))
    ∙ c.loop-rest.invariant.verdict

pub loop-rest-preserved : goal.loop-rest-preserved
loop-rest-preserved c =
    let less = c.next_line.ensures.less in
    let small = c.loop-rest.invariant.small in
    record {
      verdict =
          sym (on_next c.loop-rest.reading c.read.new.self c.loop-rest.number
          c.loop-rest.rest.now c.next_line.result.0.now c.next_line.result.1.now c.next_line.ensures.line
          (sym c.in_ok-failure.ensures ∙ ap (λ (f : Option Failure). step_of f c.read.new.self) c.in_default.is))
          ∙ c.loop-rest.invariant.verdict;
      small = omega arith;
    }
