use Rattle.std.proofs.lemmas.Result.{err_from_is_err_and}
use Rattle.ct_io.proofs.IntakeLemmas.{Gives-fault, Gives-found}
use Rattle.ct_io.proofs.intake.Intake.next_line.Goals as goal

pub returns-in_err-found : goal.returns-in_err-found
returns-in_err-found g c =
    let p = err_from_is_err_and c.from_residual.result c.from_residual.ensures.1 in
    rw (p.1, p.2) (Gives-fault _ _ _ _ _ _ _ c.in_err-found.ensures)

pub returns : goal.returns
returns g c = Gives-found _ _ _ _ _ _ _ _ _ c.in_ok-found.ensures c.give_out.ensures
