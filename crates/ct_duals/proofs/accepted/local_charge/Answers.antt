-- One more index.
use Rattle.std.proofs.Common.{rules, ◌≡◌, ◌+◌, ◌*◌, ◌<◌, ◌≤◌, ◌^◌, ◌∷◌, [], drop, get_or, length, ap, ◌∙◌, subst, arith}
use Rattle.std.specs.Prelude.{pos, int_lt, true, false}
use Rattle.std.proofs.lemmas.Int.{to_z-of_z}
use Rattle.std.proofs.lemmas.List.{drop_more, drop_all}
use mir.Val.{SFits}
use mir.Syntax.{w64}
use Rattle.ct_duals.specs.Bound.{natural}
use Rattle.ct_duals.specs.Local.{local_charge}
use Rattle.ct_duals.proofs.Charges.{local-yes, local-no, local-past}
use Rattle.ct_duals.proofs.accepted.local_charge.Goals as goal
use Rattle.ct_duals.proofs.accepted.local_charge.Goals.{then-number-gt0+then-taken-uppers, else-number-gt0, else-number-gt0-via-then-number-gt0+else-taken-uppers, else-number-gt0-via-else-number-gt0}

pub loop-number-preserved : goal.loop-number-preserved
loop-number-preserved c =
    let y = c.args.y.now in
    let us = c.args.uppers.now in
    let p = get_or y c.loop-number.number-index (0, pos 0) in
    let u = get_or us c.loop-number.taken 0 in
    let rest = drop (c.loop-number.number-index + 1) y in
    let left = drop c.loop-number.taken us in
    let more = drop_more y c.loop-number.number-index (0, pos 0) c.loop-number-test.true in
    let f : SFits w64 p.1 = search rules in
    let counted = c.loop-number.invariant.0 in
    let was = subst (λ ys. c.loop-number.sum + local_charge ys left ≡ local_charge y us) more c.loop-number.invariant.1 in
    let small = c.loop-number.invariant.2 in
    elim c.if-number-gt0.branch [
      | then-number-gt0+then-taken-uppers w ↦
          let some : int_lt (pos 0) p.1 ≡ true = grind (arith, to_z-of_z, w.if-number-gt0.true) in
          let place : c.loop-number.taken < length us = w.if-taken-uppers.true in
          let charge : w.product-sum.result ≡ natural p.1 * u = (simp to_z-of_z at w.product-sum.ensures.value) in
          let few = subst (λ v. v ≤ 2 ^ 95) charge w.product-sum.ensures.small in
          let split = ap (local_charge (p ∷ rest)) (drop_more us c.loop-number.taken 0 place) ∙ local-yes p rest u (drop (c.loop-number.taken + 1) us) some in
          rw (w.sum-is, w.taken-is, charge) (omega (arith, counted), omega (arith, was, split), omega (arith, small, few))
      | else-number-gt0 w ↦
          let next : c.loop-number.sum + local_charge rest left ≡ local_charge y us =
          elim w.else-number-gt0.branch [
            | else-number-gt0-via-then-number-gt0+else-taken-uppers v ↦
                let past : left ≡ [] = drop_all c.loop-number.taken us v.if-taken-uppers.false in
                let first = ap (local_charge (p ∷ rest)) past ∙ local-past (p ∷ rest) in
                let second = ap (local_charge rest) past ∙ local-past rest in
                omega (arith, was, first, second)
            | else-number-gt0-via-else-number-gt0 v ↦
                let none : int_lt (pos 0) p.1 ≡ false = grind (arith, to_z-of_z, v.if-number-gt0.false) in
                let same = local-no p rest left none in
                omega (arith, was, same)
          ] in
          rw (w.sum-is, w.taken-is) (omega (arith, counted), next, omega (arith, small))
    ]
