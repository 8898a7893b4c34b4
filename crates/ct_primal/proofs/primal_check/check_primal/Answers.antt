-- A primal that is accepted is sound, so no dual lies below it.
use Rattle.std.proofs.Common.{◌≡◌, ◌≤◌, [], None, sym, ◌∙◌, subst, ℕ}
use Rattle.ct_words.specs.Numbers.{combination}
use Rattle.ct_duals.specs.Bound.{dual_bound}
use Rattle.ct_duals.proofs.Sound.{AreLaws}
use Rattle.ct_primal.specs.Primal.{primal_fault}
use Rattle.ct_primal.proofs.PrimalFaults.{sound-from_none, primal-least}
use Rattle.ct_primal.proofs.primal_check.check_primal.Goals as goal

pub value-requires-clause-scale : goal.value-requires-clause-scale
value-requires-clause-scale g c =
    let none : primal_fault (g.S.Scheme.number c.args.scheme.now) c.args.primal.now ≡ None = sym c.first_fault.ensures ∙ c.in_default.is in
    (sound-from_none (g.S.Scheme.number c.args.scheme.now) c.args.primal.now none).scale

pub returns-clause-least : goal.returns-clause-least
returns-clause-least g c = λ dual is_dual entry even nothing accepted.
    let s = c.args.scheme.now in
    let belongs = g.S.Scheme.belongs s in
    let index = g.S.Scheme.index s in
    let degree = g.S.Scheme.degree s in
    let number = g.S.Scheme.number s in
    let laws : AreLaws belongs index degree number = record {
      positive_rows = g.met.S.Scheme.positive s;
      ones = g.met.S.Scheme.ones s;
      within = g.met.S.Scheme.within s;
      itself = g.met.S.Scheme.itself s;
    } in
    let none : primal_fault number c.args.primal.now ≡ None = sym c.first_fault.ensures ∙ c.in_default.is in
    let sound = sound-from_none number c.args.primal.now none in
    subst (λ (v : ℕ). v ≤ dual_bound dual (combination number dual.c 0) []) (sym c.value.ensures)
    (primal-least belongs index degree number c.args.primal.now laws c.requires.fits c.requires.form sound dual is_dual entry even nothing accepted)
