use Rattle.std.proofs.Common.{◌≡◌, ℕ, ◌+◌, ◌^◌, List, [], ◌∷◌, ◌++◌, length, get_or, below_more, refl, sym, subst, ap, ◌∙◌, arith}
use Rattle.std.proofs.Math.ListN.{get_or-append}
use Rattle.std.proofs.lemmas.Nat.{one_shl}
use Rattle.std.proofs.lemmas.List.{length_push, get_or_push}
use Rattle.ct_codes.specs.declared.light.Pivot.{Pivot}
use Rattle.ct_codes.specs.Inside.Light.{reduced, AreUnits}
use Rattle.ct_codes.proofs.light.units_of.Goals as goal

-- one unit more
units-more : (pivots : List Pivot) (units : List ℕ) (x : ℕ) → AreUnits pivots units → x ≡ reduced pivots (2 ^ length units) → AreUnits pivots (units ++ x ∷ [])
units-more pivots units x are is = λ q below.
    let size = length_push units x in
    below_more (λ p. get_or (units ++ x ∷ []) p 0 ≡ reduced pivots (2 ^ p)) (length units) (λ p h. get_or-append units (x ∷ []) 0 p h ∙ are p h)
    (get_or_push units x 0 (length units) refl ∙ is) q (omega arith)

pub loop-place-preserved : goal.loop-place-preserved
loop-place-preserved c =
    let pivots = c.args.pivots.now in
    let units = c.loop-place.units.items in
    let size = c.loop-place.invariant.size in
    let x = c.reduced.result in
    let is = c.reduced.ensures ∙ ap (reduced pivots) (one_shl c.loop-place.place 32 c.loop-place-test.true) ∙ ap (λ p. reduced pivots (2 ^ p)) (sym size) in
    record {
      size = ap length c.in_ok-push.ensures.items ∙ length_push units x ∙ ap (λ k. k + 1) size;
      units = subst (λ (us : List ℕ). AreUnits pivots us) (sym c.in_ok-push.ensures.items) (units-more pivots units x c.loop-place.invariant.units is);
    }
