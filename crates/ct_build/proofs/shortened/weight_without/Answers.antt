use Rattle.std.proofs.Common.{◌≡◌, ℕ, ◌==◌, ◌^◌, ◌<◌, ◌≤◌, arith}
use Rattle.std.proofs.lemmas.List.Sums.{count_by-le-length}
use Rattle.ct_words.specs.declared.limits.TheConstants.{MAX_N}
use Rattle.ct_build.proofs.shortened.weight_without.Goals as goal

-- few ones are a number of 32 bits
few_ones : (ones count long : ℕ) → ones ≡ count → count ≤ long → long ≤ MAX_N → ones < 2 ^ 32
few_ones ones count long is within short = omega arith

pub overflow_cast-ones : goal.overflow_cast-ones
overflow_cast-ones c =
    record { fits = few_ones c.ones_among.result _ _ c.ones_among.ensures (count_by-le-length (λ a. a == 1) c.args.digits.now) c.requires }
