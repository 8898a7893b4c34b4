use Rattle.std.proofs.lemmas.Result.{err_from_is_err_and}
use Rattle.ct_io.proofs.InputLemmas.{reads_input, same_fault, same_end, none_taken}
use Rattle.ct_io.proofs.input.read_all.Goals as goal

pub returns-in_err-intake : goal.returns-in_err-intake
returns-in_err-intake g c =
    let p = err_from_is_err_and c.from_residual.result c.from_residual.ensures.1 in
    rw (p.1, p.2) (reads_input _ _ _ _ _ _ (none_taken (g.S.Source.left c.args.source.now) (g.S.Source.faults c.args.source.now)) tt)

pub returns-in_err-gather_all : goal.returns-in_err-gather_all
returns-in_err-gather_all g c =
    let p = err_from_is_err_and c.from_residual-in_err-gather_all.result c.from_residual-in_err-gather_all.ensures.1 in
    rw (p.1, p.2) (reads_input _ _ _ _ _ _ (same_fault _ _ _ _ _ _ c.in_err-gather_all.ensures) tt)

pub returns : goal.returns
returns g c = reads_input _ _ _ _ _ _ (same_end _ _ _ _ _ _ c.into_bytes.result c.in_ok-gather_all.ensures) c.into_bytes.ensures
