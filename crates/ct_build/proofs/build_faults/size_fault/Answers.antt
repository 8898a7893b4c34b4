use Rattle.std.proofs.Common.{ℕ, ◌≤◌, Option, IfNone, lit≤, sym, ap, subst, ◌∙◌}
use Rattle.std.specs.Option.{unwrap_or}
use Rattle.ct_build.specs.declared.building.TheConstants.{MAX_BUILT}
use Rattle.ct_build.specs.Build.{size_of, other_of}
use Rattle.ct_build.proofs.BuildFaults.{IfNone-anyway}
use Rattle.ct_build.proofs.build_faults.size_fault.Goals as goal
use Rattle.ct_build.proofs.build_faults.size_fault.Goals.{In_default-above_limit}

second_few : (c : In_default-above_limit) → size_of (other_of c.args.step.now c.args.other) ≤ MAX_BUILT
second_few c = subst (λ k. k ≤ MAX_BUILT) (c.size_of-second.ensures ∙ ap size_of c.other_of.ensures) c.in_default-above_limit.ensures.limit

pub result_size-requires-clause-other : goal.result_size-requires-clause-other
result_size-requires-clause-other c = second_few c

pub returns-in-Some-result_size-clause-sizes : goal.returns-in-Some-result_size-clause-sizes
returns-in-Some-result_size-clause-sizes c =
    IfNone-anyway c.above_limit-in-Some-result_size.result _
    (c.in_default.ensures.limit, second_few ((goal.at.returns-in-Some-result_size-clause-sizes c).In_default-above_limit))

pub returns-in-None-clause-sizes : goal.returns-in-None-clause-sizes
returns-in-None-clause-sizes c = (c.in_default.ensures.limit, second_few ((goal.at.returns-in-None-clause-sizes c).In_default-above_limit))

pub returns-in-Some-result_size-clause-made : goal.returns-in-Some-result_size-clause-made
returns-in-Some-result_size-clause-made c =
    subst (λ (o : Option ℕ). IfNone c.above_limit-in-Some-result_size.result (unwrap_or o 0 ≤ MAX_BUILT))
    (sym c.in-Some-result_size.is ∙ c.result_size.ensures) c.above_limit-in-Some-result_size.ensures.limit

pub returns-in-None-clause-made : goal.returns-in-None-clause-made
returns-in-None-clause-made c =
    subst (λ (o : Option ℕ). unwrap_or o 0 ≤ MAX_BUILT) (sym c.in-None.is ∙ c.result_size.ensures) (lit≤ tt)
