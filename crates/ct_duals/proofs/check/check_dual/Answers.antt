-- An accepted dual is sound, by the laws of the scheme.
use Rattle.std.proofs.Common.{◌≡◌, None, sym, ap, ◌∙◌, subst}
use Rattle.std.specs.Prelude.{ℕ, ℤ, List, unsigned_abs, ◌<◌, ◌^◌}
use Rattle.std.proofs.lemmas.Int.{to_z-of_z}
use mir.Val.{SFits}
use mir.Syntax.{w128}
use Rattle.ct_words.specs.Numbers.{numbers_of, combination}
use Rattle.ct_duals.specs.Check.{dual_fault, IsBelow}
use Rattle.ct_duals.specs.Bound.{AreTrueUppers, dual_premises, dual_spread, IsSpread}
use Rattle.ct_duals.specs.Inside.Proven.{IsProven}
use Rattle.ct_duals.proofs.Faults.{below-from_none}
use Rattle.ct_duals.proofs.Sound.{AreLaws}
use Rattle.ct_duals.proofs.DualBound.{lead-least, dual_spread-true, dual_bound-true}
use Rattle.ct_duals.proofs.LocalBound.{local_bound-true}
use Rattle.ct_duals.proofs.check.check_dual.Goals as goal

pub new-requires : goal.new-requires
new-requires g c =
    let s = c.args.scheme.now in
    let d = c.args.dual.now in
    let belongs = g.S.Scheme.belongs s in
    let index = g.S.Scheme.index s in
    let degree = g.S.Scheme.degree s in
    let number = g.S.Scheme.number s in
    let laws : AreLaws belongs index degree number = record {
      positive_rows = g.met.S.Scheme.positive s;
      ones = g.met.S.Scheme.ones s;
      within = g.met.S.Scheme.within s;
      itself = g.met.S.Scheme.itself s;
    } in
    let none : dual_fault number d ≡ None = sym c.first_fault.ensures ∙ c.in_default.is in
    let f : SFits w128 c.combination-at_zero.result = record { sfits = c.combination-at_zero.type_inv } in
    let value : c.combination-at_zero.result ≡ combination number d.c 0 = c.combination-at_zero.ensures.value ∙ ap (λ m. combination number m 0) c.as_slice.ensures in
    let small = c.combination-at_zero.ensures.small in
    let same : number ≡ numbers_of d.entry = λ i k j. c.requires.fits.numbers k j i in
    let met = below-from_none number d none in
    let proven : IsProven (record { dual = d; at_zero = combination number d.c 0 }) = record {
      accepted = record {
        form = c.requires.form;
        lead = met.0;
        below = subst (λ (ns : ℕ → ℕ → ℤ). IsBelow ns d) same met.1;
        at_zero_is = ap (λ (ns : ℕ → ℕ → ℤ). combination ns d.c 0) same;
      };
      least = lead-least belongs index degree number d laws c.requires.fits c.requires.form;
      small = subst (λ z. unsigned_abs z < 2 ^ 116) value small;
      spread = subst (λ (ns : ℕ → ℕ → ℤ). (us : List ℕ) → AreTrueUppers (dual_premises d) us → IsSpread d.entry (combination ns d.c) (dual_spread d (combination number d.c 0) us))
          same (dual_spread-true belongs index degree number d laws c.requires.fits c.requires.form none);
      sound = dual_bound-true belongs index degree number d laws c.requires.fits c.requires.form none;
      local = local_bound-true belongs index degree number d laws c.requires.fits c.requires.form none;
    } in
    subst (λ z. IsProven (record { dual = d; at_zero = z })) (sym (to_z-of_z w128 c.combination-at_zero.result f ∙ value)) proven
