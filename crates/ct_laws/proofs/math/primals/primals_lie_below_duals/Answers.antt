use Rattle.ct_duals.proofs.Sound.{AreLaws}
use Rattle.ct_primal.proofs.PrimalFaults.{primal-least}
use Rattle.ct_laws.proofs.math.primals.primals_lie_below_duals.Goals as goal

pub returns : goal.returns
returns g c = λ primal dual fits form sound.
    let s = c.args.scheme.now in
    let laws : AreLaws (g.S.Scheme.belongs s) (g.S.Scheme.index s) (g.S.Scheme.degree s) (g.S.Scheme.number s) = record {
      positive_rows = g.met.S.Scheme.positive s;
      ones = g.met.S.Scheme.ones s;
      within = g.met.S.Scheme.within s;
      itself = g.met.S.Scheme.itself s;
    } in
    primal-least (g.S.Scheme.belongs s) (g.S.Scheme.index s) (g.S.Scheme.degree s) (g.S.Scheme.number s) primal laws fits form sound dual
