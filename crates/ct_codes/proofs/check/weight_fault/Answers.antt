use Rattle.std.proofs.Common.{◌∙◌, ◌<◌, ◌^◌, arith, sym, ap}
use Rattle.std.proofs.Math.Facts.{Fits-lt-pow}
use Rattle.std.proofs.lemmas.List.Elements.{All-from_get_or}
use Rattle.ct_words.specs.Check.{weight_fault}
use Rattle.ct_words.proofs.CheckLemmas.{weight_fault_at, weight_fault_none}
use Rattle.ct_codes.proofs.check.weight_fault.Goals as goal

pub returns-in_err-w : goal.returns-in_err-w
returns-in_err-w c = λ n below. c.from_residual.ensures ∙ sym (ap (λ w. weight_fault n w c.args.words.now) c.in_err-w.was)

pub returns-then-weight-w : goal.returns-then-weight-w
returns-then-weight-w c = λ n below.
    let fits = All-from_get_or (λ x. x < 2 ^ 32) c.args.words.now 0 (λ k h. Fits-lt-pow (c.type_inv.words k)) in
    let here = c.weight.ensures 32 (fits c.loop-place.place 0 c.loop-place-test.true) in
    sym (ap (λ w. weight_fault n w c.args.words.now) c.in_ok-w.was
    ∙ weight_fault_at n c.in_ok-w.w c.args.words.now c.loop-place.place below fits c.loop-place-test.true c.loop-place.invariant (λ e. c.if-weight-w.true (here ∙ e)))

pub returns : goal.returns
returns c = λ n below.
    let fits = All-from_get_or (λ x. x < 2 ^ 32) c.args.words.now 0 (λ k h. Fits-lt-pow (c.type_inv.words k)) in
    sym (ap (λ w. weight_fault n w c.args.words.now) c.in_ok-w.was
    ∙ weight_fault_none n c.in_ok-w.w c.args.words.now below fits (λ k h. c.loop-place.invariant k (omega arith)))
