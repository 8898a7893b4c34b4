use Rattle.std.proofs.Common.{ℕ, ◌^◌, ◌<◌, ◌≤◌, Option, sym, subst, ◌∙◌, arith}
use Rattle.std.specs.Option.{unwrap_or}
use Rattle.ct_build.specs.declared.building.TheConstants.{MAX_BUILT}
use Rattle.ct_build.proofs.build_faults.told_size.Goals as goal

-- so few words are counted by a number of 32 bits
counted : (count : ℕ) → count ≤ MAX_BUILT → count < 2 ^ 32
counted count few = omega arith

pub overflow_cast-result : goal.overflow_cast-result
overflow_cast-result c =
    let is = sym c.result_size.ensures ∙ c.in-Some-result_size.is in
    record { fits = counted c.in-Some-result_size.count (subst (λ (o : Option ℕ). unwrap_or o 0 ≤ MAX_BUILT) is c.in_default.ensures.made) }
