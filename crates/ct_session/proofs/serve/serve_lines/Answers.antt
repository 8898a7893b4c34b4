use Rattle.std.proofs.Common.{refl}
use Rattle.std.proofs.lemmas.Result.{err_from_is_err_and}
use Rattle.ct_session.proofs.Serving.{begins}
use Rattle.ct_session.proofs.Endings.{ends_at_once}
use Rattle.ct_session.proofs.serve.serve_lines.Goals as goal

pub returns-in_default : goal.returns-in_default
returns-in_default g c = ends_at_once _ _ _ _

pub returns-in_default-new : goal.returns-in_default-new
returns-in_default-new g c = ends_at_once _ _ _ _

pub lines-init : goal.lines-init
lines-init g c = rw (c.in-Ok.ensures, c.in-Ok-new.ensures, c.new-session.ensures) (begins _ refl)

pub returns-in_err-serve_line : goal.returns-in_err-serve_line
returns-in_err-serve_line g c =
    let p = err_from_is_err_and c.from_residual.result c.from_residual.ensures.1 in
    rw (p.1, p.2) (c.in_err-serve_line.ensures _ c.lines.invariant)

pub lines-preserved : goal.lines-preserved
lines-preserved g c = let step = rw c.in-Line.is at c.in_ok-serve_line.ensures in (step _ c.lines.invariant).0

pub lines-smaller : goal.lines-smaller
lines-smaller g c = let step = rw c.in-Line.is at c.in_ok-serve_line.ensures in (step _ c.lines.invariant).1

pub returns : goal.returns
returns g c =
    let step = rw c.in-End.is at c.in_ok-serve_line.ensures in
    let end = step _ c.lines.invariant in
    c.end_session.ensures _ _ _ _ end.0 end.1 end.2
