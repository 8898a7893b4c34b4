-- What is pushed are the values of the pairs before this one.
use Rattle.std.proofs.Common.{◌≡◌, ◌++◌, map, drop}
use Rattle.toml.specs.View.{view}
use Rattle.ct_dual_files.specs.Fields.{index_pair}
use Rattle.ct_dual_files.proofs.written.pair_list.Given as goal

abbrev pub invariant-loop-i : goal.invariant-loop-i
invariant-loop-i l = map view l.values.items ++ map index_pair (drop l.i-index l.pairs) ≡ map index_pair l.pairs
