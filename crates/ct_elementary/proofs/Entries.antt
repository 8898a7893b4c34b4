-- What an entry of the table says of its length and distance.
use Rattle.std.proofs.Common.{ℕ, ◌≤◌, arith}
use Rattle.std.proofs.lemmas.Bool.Decides.{nat_tests}
use Rattle.ct_words.specs.declared.limits.TheConstants.{MAX_N}
use Rattle.ct_words.specs.Entry.{IsEntry, unrestricted}

-- the ranges of the length and the distance
pub record IsWithin (n d : ℕ) : Type 0 where
  pub long : 1 ≤ n
  pub short : n ≤ MAX_N
  pub far : 3 ≤ d
  pub near : d ≤ MAX_N

pub IsWithin-from_entry : (n d : ℕ) → IsEntry (unrestricted n d) → IsWithin n d
IsWithin-from_entry n d h =
    record { long = grind (arith, nat_tests); short = grind (arith, nat_tests); far = grind (arith, nat_tests); near = grind (arith, nat_tests) }
