-- One more index.
use Rattle.std.proofs.Common.{rules, ◌≡◌, ◌+◌, ◌*◌, ◌<◌, ◌≤◌, ◌^◌, ◌∷◌, [], drop, get_or, length, sym, ◌∙◌, subst, arith}
use Rattle.std.specs.Prelude.{pos, int_lt, true, false}
use Rattle.std.proofs.lemmas.Int.{to_z-of_z}
use Rattle.std.proofs.lemmas.List.{drop_more, drop_all}
use mir.Val.{SFits}
use mir.Syntax.{w64}
use Rattle.ct_duals.specs.Bound.{natural, positive, charges}
use Rattle.ct_duals.proofs.Charges.{Gathers, gathers-none, gathers-past, gathers-far, gathers-near}
use Rattle.ct_duals.proofs.accepted.charge.Goals as goal
use Rattle.ct_duals.proofs.accepted.charge.Goals.{then-number-gt0+then-taken-uppers+then-is_far, then-number-gt0+then-taken-uppers+else-is_far, else-number-gt0, else-number-gt0-via-then-number-gt0+else-taken-uppers, else-number-gt0-via-else-number-gt0}

pub loop-i-preserved : goal.loop-i-preserved
loop-i-preserved c =
    let y = c.args.y.now in
    let us = c.args.uppers.now in
    let p = get_or y c.loop-i.i-index (0, pos 0) in
    let u = get_or us c.loop-i.taken 0 in
    let all = charges (positive y) us in
    let rest = drop (c.loop-i.i-index + 1) y in
    let more = drop_more y c.loop-i.i-index (0, pos 0) c.loop-i-test.true in
    let f : SFits w64 p.1 = search rules in
    let was = subst (λ ys. Gathers c.args.entry all ys (drop c.loop-i.taken us) c.loop-i.near c.loop-i.far) more c.loop-i.invariant.1 in
    let counted = c.loop-i.invariant.0 in
    let sum = c.loop-i.invariant.2 in
    let most = c.loop-i.invariant.3 in
    elim c.if-number-gt0.branch [
      | then-number-gt0+then-taken-uppers+then-is_far w ↦
          let some : int_lt (pos 0) p.1 ≡ true = grind (arith, to_z-of_z, w.if-number-gt0.true) in
          let place : c.loop-i.taken < length us = w.if-taken-uppers.true in
          let charge : w.product-charge.result ≡ natural p.1 * u = (simp to_z-of_z at w.product-charge.ensures.value) in
          let small = subst (λ v. v ≤ 2 ^ 95) charge w.product-charge.ensures.small in
          let group = sym w.is_far.ensures ∙ w.if-is_far.true in
          let split = subst (λ vs. Gathers c.args.entry all (p ∷ rest) vs c.loop-i.near c.loop-i.far) (drop_more us c.loop-i.taken 0 place) was in
          let next = gathers-far c.args.entry all p rest u (drop (c.loop-i.taken + 1) us) c.loop-i.near c.loop-i.far some group split in
          rw (w.near-is, w.far-is, w.taken-is, w.max-far.ensures, charge) (omega (arith, counted), next, omega (arith, sum), omega (arith, most, small))
      | then-number-gt0+then-taken-uppers+else-is_far w ↦
          let some : int_lt (pos 0) p.1 ≡ true = grind (arith, to_z-of_z, w.if-number-gt0.true) in
          let place : c.loop-i.taken < length us = w.if-taken-uppers.true in
          let charge : w.product-charge.result ≡ natural p.1 * u = (simp to_z-of_z at w.product-charge.ensures.value) in
          let small = subst (λ v. v ≤ 2 ^ 95) charge w.product-charge.ensures.small in
          let other = sym w.is_far.ensures ∙ w.if-is_far.false in
          let split = subst (λ vs. Gathers c.args.entry all (p ∷ rest) vs c.loop-i.near c.loop-i.far) (drop_more us c.loop-i.taken 0 place) was in
          let next = gathers-near c.args.entry all p rest u (drop (c.loop-i.taken + 1) us) c.loop-i.near c.loop-i.far some other split in
          rw (w.near-is, w.far-is, w.taken-is, charge) (omega (arith, counted), next, omega (arith, sum, small, charge), most)
      | else-number-gt0 w ↦
          let next : Gathers c.args.entry all rest (drop c.loop-i.taken us) c.loop-i.near c.loop-i.far =
          elim w.else-number-gt0.branch [
            | else-number-gt0-via-then-number-gt0+else-taken-uppers v ↦
                let past : drop c.loop-i.taken us ≡ [] = drop_all c.loop-i.taken us v.if-taken-uppers.false in
                subst (λ vs. Gathers c.args.entry all rest vs c.loop-i.near c.loop-i.far) (sym past)
                (gathers-past c.args.entry all (p ∷ rest) rest c.loop-i.near c.loop-i.far
                (subst (λ vs. Gathers c.args.entry all (p ∷ rest) vs c.loop-i.near c.loop-i.far) past was))
            | else-number-gt0-via-else-number-gt0 v ↦
                let none : int_lt (pos 0) p.1 ≡ false = grind (arith, to_z-of_z, v.if-number-gt0.false) in
                gathers-none c.args.entry all p rest (drop c.loop-i.taken us) c.loop-i.near c.loop-i.far none was
          ] in
          rw (w.near-is, w.far-is, w.taken-is) (omega (arith, counted), next, omega (arith, sum), most)
    ]
