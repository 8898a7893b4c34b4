-- What is pushed are the values of the numbers before this one.
use Rattle.std.proofs.Common.{◌≡◌, ◌++◌, map, drop}
use Rattle.std.specs.Prelude.{ℤ}
use Rattle.toml.specs.Data.{integer}
use Rattle.toml.specs.View.{view}
use Rattle.ct_dual_files.proofs.written.integer_list.Given as goal

abbrev pub invariant-loop-integer : goal.invariant-loop-integer
invariant-loop-integer l =
    map view l.values.items ++ map (λ (z : ℤ). integer z) (drop l.integer-index l.integers) ≡ map (λ (z : ℤ). integer z) l.integers
