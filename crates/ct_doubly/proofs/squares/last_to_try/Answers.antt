-- Where the mean of half the distances is at least half, few squares are among more words than (n1 + n2)/(4·half).
use Rattle.std.proofs.Common.{◌*◌, ◌≤◌, arith, div-lt_iff_lt-mul}
use Rattle.ct_doubly.proofs.FewSquares.{not_too_many-from}
use Rattle.ct_doubly.proofs.squares.last_to_try.Goals as goal

pub returns-then-half-first-clause-rest : goal.returns-then-half-first-clause-rest
returns-then-half-first-clause-rest c = λ m above few.
    let half = c.args.half in
    let distance = c.requires.distance in
    let some : 1 ≤ 4 * half = omega (arith, distance.0) in
    let times = (div-lt_iff_lt-mul some).0 above in
    not_too_many-from c.args.n1 c.args.w1 c.args.n2 c.args.w2 half m c.requires.first c.requires.last
    (rw (c.max-first.ensures, c.max-last.ensures) at c.if-half-first.true) (omega arith)
