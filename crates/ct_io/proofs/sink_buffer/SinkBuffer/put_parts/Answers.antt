use Rattle.std.proofs.Common.{Bor, List, ℕ}
use Rattle.std.proofs.lemmas.Result.{err_from_is_err_and}
use Rattle.ct_io.proofs.BufferedLemmas.{puts_none, puts_part, puts_all, stops_at_part}
use Rattle.ct_io.proofs.sink_buffer.SinkBuffer.put_parts.Goals as goal

pub loop-part-init : goal.loop-part-init
loop-part-init g c = puts_none _

pub loop-part-preserved : goal.loop-part-preserved
loop-part-preserved g c =
    let text_of = λ (part : Bor (List ℕ)). part.now in
    puts_part text_of c.args.parts.now c.loop-part.part-index _ _ _ _ c.loop-part-test.true c.loop-part.invariant c.in_ok-put.ensures.put

pub returns-in_err-put : goal.returns-in_err-put
returns-in_err-put g c =
    let text_of = λ (part : Bor (List ℕ)). part.now in
    let p = err_from_is_err_and c.from_residual.result c.from_residual.ensures.1 in
    rw p.1 (stops_at_part text_of c.args.parts.now c.loop-part.part-index _ _ _ _ c.loop-part-test.true c.loop-part.invariant c.in_err-put.ensures.put)

pub returns : goal.returns
returns g c =
    let text_of = λ (part : Bor (List ℕ)). part.now in
    puts_all text_of c.args.parts.now c.loop-part.part-index _ _ c.loop-part-test.false c.loop-part.invariant
