-- Better bounds and bounds that are no better.
use Rattle.std.proofs.Common.{ℕ, le_refl, arith}
use Rattle.ct_words.specs.declared.claim.Side.{Side}
use Rattle.ct_words.specs.declared.claim.Side.TheVariants.{Lower, Upper}
use Rattle.ct_rule_parts.specs.Slot.{IsBetter, IsNoBetter}

-- a better bound is no worse, and a bound is no better than itself
pub better-no_worse : (side : Side) (v u : ℕ) → IsBetter side v u → IsNoBetter side u v
better-no_worse Lower v u h = omega arith
better-no_worse Upper v u h = omega arith

pub no_better-self : (side : Side) (v : ℕ) → IsNoBetter side v v
no_better-self Lower v = le_refl v
no_better-self Upper v = le_refl v

-- better than a bound that is no worse than a third, so better than the third
pub better-trans_no_better : (side : Side) (u v w : ℕ) → IsBetter side u v → IsNoBetter side w v → IsBetter side u w
better-trans_no_better Lower u v w better worse = omega arith
better-trans_no_better Upper u v w better worse = omega arith

-- no bound is better than itself
pub no_better_than_itself : (side : Side) (v : ℕ) → IsBetter side v v → ⊥
no_better_than_itself Lower v better = omega arith
no_better_than_itself Upper v better = omega arith
