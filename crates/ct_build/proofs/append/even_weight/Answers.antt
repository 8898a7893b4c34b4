use Rattle.std.proofs.Common.{ℕ, ◌^◌, ◌<◌, ◌≤◌, arith}
use Rattle.ct_words.specs.declared.limits.TheConstants.{MAX_N}
use Rattle.ct_build.proofs.append.even_weight.Goals as goal

-- a weight is far below the numbers of 32 bits
far_below : (k : ℕ) → k ≤ MAX_N → k < 2 ^ 31
far_below k few = omega arith

pub map-requires : goal.map-requires
map-requires c = λ k is. far_below k (c.requires k is)
