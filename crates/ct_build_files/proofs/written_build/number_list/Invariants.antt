use Rattle.std.proofs.Common.{◌≡◌, ℕ, pos, ◌++◌, map, drop}
use Rattle.toml.specs.Data.{integer}
use Rattle.toml.specs.View.{view}
use Rattle.ct_build_files.proofs.written_build.number_list.Given as goal

abbrev pub invariant-loop-number : goal.invariant-loop-number
invariant-loop-number l =
    map view l.values.items ++ map (λ (k : ℕ). integer (pos k)) (drop l.number-index l.numbers)
    ≡ map (λ (k : ℕ). integer (pos k)) l.numbers
