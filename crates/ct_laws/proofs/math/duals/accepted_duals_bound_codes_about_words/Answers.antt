use Rattle.ct_duals.proofs.Sound.{AreLaws}
use Rattle.ct_duals.proofs.LocalBound.{local_bound-true}
use Rattle.ct_laws.proofs.math.duals.accepted_duals_bound_codes_about_words.Goals as goal

pub returns : goal.returns
returns g c =
    let s = c.args.scheme.now in
    let belongs = g.S.Scheme.belongs s in
    let index = g.S.Scheme.index s in
    let degree = g.S.Scheme.degree s in
    let number = g.S.Scheme.number s in
    let laws : AreLaws belongs index degree number = record {
      positive_rows = g.met.S.Scheme.positive s;
      ones = g.met.S.Scheme.ones s;
      within = g.met.S.Scheme.within s;
      itself = g.met.S.Scheme.itself s;
    } in
    λ dual w uppers fits form none is known. local_bound-true belongs index degree number dual laws fits form none w is uppers known
