-- The fault of the least index that has one.
use Rattle.std.proofs.Common.{◌≡◌, ◌<◌, suc, ap, sym, ◌∙◌, arith}
use Rattle.ct_duals.specs.Dual.{degree_of}
use Rattle.ct_duals.specs.Check.{fault_at, first_below}
use Rattle.ct_duals.proofs.First.{first_below-more, first_below-found}
use Rattle.ct_duals.proofs.check.above_fault.Goals as goal

pub returns-in-Some : goal.returns-in-Some
returns-in-Some g c =
    let f = fault_at (g.S.Scheme.number c.args.scheme.now) c.args.dual.now in
    let within : c.loop-i.i < suc (degree_of c.args.dual.now.entry) =
    omega (arith, c.loop-i-test.true, c.degree-i-end.ensures, c.requires.degree) in
    sym (first_below-found f c.loop-i.i c.in-Some.fault c.loop-i.invariant (sym {b = f c.loop-i.i} c.in-Some.ensures) (suc (degree_of c.args.dual.now.entry)) within)

pub loop-i-preserved : goal.loop-i-preserved
loop-i-preserved g c =
    first_below-more (fault_at (g.S.Scheme.number c.args.scheme.now) c.args.dual.now) c.loop-i.i c.loop-i.invariant (sym c.in_default.ensures)

pub returns : goal.returns
returns g c =
    let f = fault_at (g.S.Scheme.number c.args.scheme.now) c.args.dual.now in
    let all : c.loop-i.i ≡ suc (degree_of c.args.dual.now.entry) =
    omega (arith, c.loop-i-test.false, c.loop-i.auto, c.degree-i-end.ensures, c.requires.degree) in
    sym (ap (first_below f) (sym all) ∙ c.loop-i.invariant)
