use Rattle.std.proofs.lemmas.Result.{err_from_is_err_and}
use Rattle.ct_session.proofs.FewLeft.{few_at_end}
use Rattle.ct_session.proofs.Endings.{ends_broken, ends_well, ends_last_unwritten}
use Rattle.ct_session.proofs.serve.end_session.Goals as goal

pub returns-in_default : goal.returns-in_default
returns-in_default g c = λ r begin left reads h none ended.
    ends_broken r _ begin (record { left = left; reads = reads; sink = _ }) left reads _ _ _ h h.took h.within (few_at_end r left none ended) c.break_off.ensures

pub returns : goal.returns
returns g c = λ r begin left reads h none ended.
    let end = c.in-Ok.ensures.end in
    let put = rw c.deref.ensures.value at c.in_ok-put_last.ensures.put in
    let puts = rw c.clear.ensures.items at end.1 in
    ends_well r _ begin (record { left = left; reads = reads; sink = _ }) _ _ _ _ h none ended puts end.2 put c.in_ok-put_last.ensures.emptied

pub returns-in_err-put_last : goal.returns-in_err-put_last
returns-in_err-put_last g c = λ r begin left reads h none ended.
    let end = c.in-Ok.ensures.end in
    let stops = rw c.deref.ensures.value at c.in_err-put_last.ensures.put in
    let puts = rw c.clear.ensures.items at end.1 in
    let p = err_from_is_err_and c.from_residual.result c.from_residual.ensures.1 in
    rw p.1 (ends_last_unwritten r _ begin (record { left = left; reads = reads; sink = _ }) _ _ _ _ h none ended puts stops p.2)
