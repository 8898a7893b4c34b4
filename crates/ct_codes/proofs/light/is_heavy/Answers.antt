use Rattle.std.proofs.Common.{◌≡◌, ℕ, ◌<◌, ◌^◌, List, length, ap, subst, sym, ◌∙◌}
use Rattle.std.specs.Prelude.{All}
use Rattle.std.proofs.Math.Facts.{Fits-lt-pow}
use Rattle.std.proofs.lemmas.List.Elements.{All-from_get_or}
use Rattle.ct_codes.specs.declared.light.Pivot.{Pivot}
use Rattle.ct_codes.specs.Inside.Light.{ArePivots, AreUnits}
use Rattle.ct_codes.proofs.LightLemmas.{none_light}
use Rattle.ct_codes.proofs.light.is_heavy.Goals as goal

pub units_of-requires : goal.units_of-requires
units_of-requires c =
    let are : ArePivots c.in-Some.pivots.items c.args.basis.now = rw c.in-Some.is at c.in_ok-pivots.ensures in
    subst (λ (ps : List Pivot). All (λ p. p.place < 32) ps) (sym c.deref.ensures.value) are.places

pub returns : goal.returns
returns c = λ heavy.
    let pivots = c.in-Some.pivots.items in
    let are : ArePivots c.in-Some.pivots.items c.args.basis.now = rw c.in-Some.is at c.in_ok-pivots.ensures in
    let fits = All-from_get_or (λ x. x < 2 ^ 32) c.args.basis.now 0 (λ k h. Fits-lt-pow (c.type_inv.basis k)) in
    let size : length c.deref-2.result.now ≡ 32 = ap length c.deref-2.ensures.value ∙ c.in_ok-units.ensures.size in
    let units = subst (λ (us : List ℕ). AreUnits c.in-Some.pivots.items us) (sym c.deref-2.ensures.value)
    (subst (λ (ps : List Pivot). AreUnits ps c.in_ok-units.units.items) c.deref.ensures.value c.in_ok-units.ensures.units) in
    none_light c.args.d c.args.basis.now pivots fits are
    (λ y below some light. c.leaves_light_words.ensures heavy pivots units y (subst (λ n. y < 2 ^ n) (sym size) below) some light)
