use Rattle.std.proofs.Common.{◌≡◌, ◌≤◌, ◌^◌, inl, inr, arith}
use Rattle.std.proofs.Math.Nat.{pow-le-pow_right}
use Rattle.std.proofs.lemmas.Bool.{cases_eq}
use Rattle.ct_codes.proofs.LightLemmas.{left_of_nothing, left-next, weight-some}
use Rattle.ct_codes.proofs.light.+is_left_of_none.Goals as goal

pub returns-then-most-eq0 : goal.returns-then-most-eq0
returns-then-most-eq0 t c = λ is ps are y below light.
    let few : c.args.end ≤ 32 = omega (arith, c.requires.size, c.requires.end) in
    let room : 2 ^ c.args.end ≤ 2 ^ 32 = pow-le-pow_right (omega arith) few in
    let none : y ≡ 0 = elim (cases_eq y 0) [
      | inl same ↦ same
      | inr some ↦ absurd (let one = weight-some 32 y (omega (arith, some)) (omega arith) in omega (arith, c.if-most-eq0.true))
    ] in
    left_of_nothing ps c.args.sum y c.if-sum-eq0.false none

pub loop-place-init : goal.loop-place-init
loop-place-init t c = λ ps are y below light. left_of_nothing ps c.args.sum y c.if-sum-eq0.false (omega arith)

pub loop-place-preserved : goal.loop-place-preserved
loop-place-preserved t c = λ ps are y below light.
    left-next ps c.args.units.now c.loop-place.place c.args.most c.args.sum y are (omega (arith, c.requires.end)) c.requires.size (omega (arith, c.if-most-eq0.false))
    (c.is_left_of_none.ensures c.if-not-is_left_of_none.false ps are) (c.loop-place.invariant ps are) below light
