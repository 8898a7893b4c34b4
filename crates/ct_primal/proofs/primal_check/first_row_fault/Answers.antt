-- The fault of the least row that has one.
use Rattle.std.proofs.Common.{◌≡◌, ◌<◌, suc, ap, sym, ◌∙◌, arith}
use Rattle.ct_duals.specs.Dual.{degree_of}
use Rattle.ct_duals.specs.Check.{first_below}
use Rattle.ct_duals.proofs.First.{first_below-more, first_below-found}
use Rattle.ct_primal.specs.Primal.{row_fault}
use Rattle.ct_primal.proofs.primal_check.first_row_fault.Goals as goal

pub returns-in-Some : goal.returns-in-Some
returns-in-Some g c =
    let f = row_fault (g.S.Scheme.number c.args.scheme.now) c.args.primal.now in
    let within : c.loop-k.k < suc (degree_of c.args.primal.now.entry) =
    omega (arith, c.loop-k-test.true, c.degree-k-end.ensures, c.requires.degree) in
    sym (first_below-found f c.loop-k.k c.in-Some.fault c.loop-k.invariant (sym {b = f c.loop-k.k} c.in-Some.ensures) (suc (degree_of c.args.primal.now.entry)) within)

pub loop-k-preserved : goal.loop-k-preserved
loop-k-preserved g c =
    first_below-more (row_fault (g.S.Scheme.number c.args.scheme.now) c.args.primal.now) c.loop-k.k c.loop-k.invariant (sym c.in_default.ensures)

pub returns : goal.returns
returns g c =
    let f = row_fault (g.S.Scheme.number c.args.scheme.now) c.args.primal.now in
    let all : c.loop-k.k ≡ suc (degree_of c.args.primal.now.entry) =
    omega (arith, c.loop-k-test.false, c.loop-k.auto, c.degree-k-end.ensures, c.requires.degree) in
    sym (ap (first_below f) (sym all) ∙ c.loop-k.invariant)
