use Rattle.std.proofs.Common.{◌∙◌, inr, inl}
use Rattle.std.proofs.lemmas.Result.{err_from_is_err_and}
use Rattle.ct_session.proofs.Gathering.{kept_one}
use Rattle.ct_session.proofs.Answering.{line_taken}
use Rattle.ct_session.proofs.serve.answer_line.Goals as goal

pub returns-clause-line : goal.returns-clause-line
returns-clause-line g c =
    let takes = line_taken _ _ _ _ _ c.clear.ensures.items (rw c.deref.ensures.value at c.in-Ok.ensures.line) in
    let put = rw (c.deref-2.ensures.value, c.answers.ensures) at c.in_ok-put_answer.ensures in
    (_, takes, put)

pub returns-clause-one_reply : goal.returns-clause-one_reply
returns-clause-one_reply g c =
    let takes = line_taken _ _ _ _ _ c.clear.ensures.items (rw c.deref.ensures.value at c.in-Ok.ensures.line) in
    kept_one _ _ _ _ _ _ takes (λ some. c.in-Ok.ensures.unput some ∙ c.clear.ensures.items)

pub returns-in_err-put_answer-clause-broken_off : goal.returns-in_err-put_answer-clause-broken_off
returns-in_err-put_answer-clause-broken_off g c =
    let takes = line_taken _ _ _ _ _ c.clear.ensures.items (rw c.deref.ensures.value at c.in-Ok.ensures.line) in
    let stops = rw (c.deref-2.ensures.value, c.answers.ensures) at c.in_err-put_answer.ensures in
    let p = err_from_is_err_and c.from_residual.result c.from_residual.ensures.1 in
    rw p.1 (inr (_, takes, p.2, stops))

pub returns-in_default-clause-broken_off : goal.returns-in_default-clause-broken_off
returns-in_default-clause-broken_off g c = inl c.break_off.ensures
