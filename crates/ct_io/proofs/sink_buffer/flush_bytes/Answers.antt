use Rattle.ct_io.proofs.BufferedLemmas.{is_flushed}
use Rattle.ct_io.proofs.sink_buffer.flush_bytes.Goals as goal

pub returns-clause-put : goal.returns-clause-put
returns-clause-put g c =
    let w = c.write_gathered.ensures in
    is_flushed _ _ _ _ _ _ _ w.written w.emptied w.prefix w.failed w.counted
