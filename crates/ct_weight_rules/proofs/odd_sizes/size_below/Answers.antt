-- The spread of a dual that was accepted is at least 1.
use Rattle.std.proofs.Common.{sym, subst}
use Rattle.std.specs.Prelude.{ℤ, pos, ◌≤ℤ◌}
use Rattle.std.proofs.lemmas.Int.{to_z-of_z}
use mir.Val.{SFits}
use mir.Syntax.{w128}
use Rattle.ct_duals.proofs.SoundDuals.{accepted-some_spread}
use Rattle.ct_weight_rules.proofs.odd_sizes.size_below.Goals as goal

pub is_above-requires-clause-most : goal.is_above-requires-clause-most
is_above-requires-clause-most c =
    let f : SFits w128 c.spread.result = record { sfits = c.spread.type_inv } in
    let some = accepted-some_spread c.args.accepted.now c.dual-dual.ensures.accepted c.args.uppers.now in
    let value = c.spread.ensures.value in
    rw (to_z-of_z w128 c.spread.result f) (subst (λ (z : ℤ). pos 1 ≤ℤ z) (sym value) some)
