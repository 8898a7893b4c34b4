-- One step more, and the ends.
use Rattle.std.proofs.Common.{◌≡◌, ◌-◌, suc, length, sym, ap, ◌∙◌, arith}
use Rattle.ct_finder.specs.Column.{columns}
use Rattle.ct_finder.specs.Pivot.{entering}
use Rattle.ct_finder.specs.Inside.Step.{step}
use Rattle.ct_finder.specs.Inside.Step.Step.{goes}
use Rattle.ct_finder.specs.Ready.{seen, end_of, step_of}
use Rattle.ct_finder.proofs.Steps.{run-ended, run-goes, run-least, run-pivots}
use Rattle.ct_finder.proofs.running.run.Goals as goal

pub loop-made-preserved : goal.loop-made-preserved
loop-made-preserved c = (
  c.step.ensures.ready c.in_default.is,
  c.step.ensures.width c.in_default.is ∙ c.loop-made.invariant.1,
  (λ range degree n same count.
      let cs = columns range degree in
      let now = seen c.loop-made.tableau in
      let next = seen c.step.new.tableau in
      let on : step cs now ≡ goes next =
      sym (c.step.ensures.value range degree (c.loop-made.invariant.1 ∙ same)) ∙ ap (λ o. step_of o next) c.in_default.is in
      sym (run-goes cs n now next on) ∙ c.loop-made.invariant.2 range degree (suc n) same (omega arith)),
)

pub returns-in-Some : goal.returns-in-Some
returns-in-Some c = record {
  end = λ range degree same.
      let cs = columns range degree in
      let now = c.loop-made.tableau in
      let n = c.args.pivots - suc c.loop-made.made in
      let whole = c.loop-made.invariant.2 range degree (suc n) same (omega arith) in
      let here = c.in-Some.ensures.value range degree (c.loop-made.invariant.1 ∙ same) in
      sym (sym whole ∙ run-ended cs n (seen now) (end_of c.in-Some.ending (seen c.step.new.tableau)) (sym here));
}

pub returns-in-None : goal.returns-in-None
returns-in-None c = record {
  end = λ range degree same.
      let cs = columns range degree in
      let now = c.loop-made.tableau in
      let whole = c.loop-made.invariant.2 range degree 0 same (omega arith) in
      let none = c.in-None.ensures.value range degree (ap length c.as_slice.ensures.value ∙ c.loop-made.invariant.1 ∙ same) ∙ ap (entering cs) c.as_slice.ensures.value in
      sym (sym whole ∙ run-least cs (seen now) (sym none));
}

pub returns-in-Some-entering : goal.returns-in-Some-entering
returns-in-Some-entering c = record {
  end = λ range degree same.
      let cs = columns range degree in
      let now = c.loop-made.tableau in
      let whole = c.loop-made.invariant.2 range degree 0 same (omega arith) in
      let some = c.entering.ensures.value range degree (ap length c.as_slice.ensures.value ∙ c.loop-made.invariant.1 ∙ same) ∙ ap (entering cs) c.as_slice.ensures.value in
      sym (sym whole ∙ run-pivots cs (seen now) c.in-Some-entering.field-0 (sym some ∙ c.in-Some-entering.is));
}
