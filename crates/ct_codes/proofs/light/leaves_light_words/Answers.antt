use Rattle.std.proofs.Common.{◌≤◌, ◌^◌, length, arith}
use Rattle.std.proofs.Math.Nat.{pow-le-pow_right}
use Rattle.ct_codes.proofs.LightLemmas.{leaves-next, weight-some}
use Rattle.ct_codes.proofs.light.leaves_light_words.Goals as goal

pub returns-then-d-lt2 : goal.returns-then-d-lt2
returns-then-d-lt2 c = λ is ps are y below some light.
    let room : 2 ^ length c.args.units.now ≤ 2 ^ 32 = pow-le-pow_right (omega arith) c.requires in
    absurd (let one = weight-some 32 y some (omega arith) in omega (arith, c.if-d-lt2.true))

pub loop-place-preserved : goal.loop-place-preserved
loop-place-preserved c = λ ps are y below some light.
    leaves-next ps c.args.units.now c.loop-place.place c.args.d y are c.loop-place-test.true c.requires (omega (arith, c.if-d-lt2.false))
    (c.is_left_of_none.ensures c.if-not-is_left_of_none.false ps are) (c.loop-place.invariant ps are) below some light
