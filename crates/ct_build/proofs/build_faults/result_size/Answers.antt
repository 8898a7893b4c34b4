use Rattle.std.proofs.Common.{◌≤◌, subst, arith, mul-le-mul_right}
use Rattle.ct_build.specs.declared.building.TheConstants.{MAX_BUILT}
use Rattle.ct_build.specs.declared.step.Step.{Step}
use Rattle.ct_build.specs.Build.{size_of, other_of}
use Rattle.ct_build.proofs.build_faults.result_size.Goals as goal

pub overflow_mul-result : goal.overflow_mul-result
unfolding other_of
overflow_mul-result c =
    let small : size_of c.args.other ≤ MAX_BUILT = subst (λ (s : Step). size_of (other_of s c.args.other) ≤ MAX_BUILT) c.in-Uuv.is c.requires.other in
    let same = c.size_of.ensures in
    let few = c.requires.part in
    let product = mul-le-mul_right {m = c.args.part.size} {n = MAX_BUILT} c.size_of.result few in
    grind arith
