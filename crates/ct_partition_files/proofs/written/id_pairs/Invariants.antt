-- What is pushed are the values of the pairs before this one, and these are ids.
use Rattle.std.proofs.Common.{◌≡◌, ◌++◌, length, map, take, drop}
use Rattle.std.specs.Prelude.{All}
use Rattle.toml.specs.View.{view}
use Rattle.toml.specs.Data.{string}
use Rattle.ct_fields.specs.Forms.{pair_data}
use Rattle.ct_partition_files.specs.Pairs.{AreIds}
use Rattle.ct_fields.proofs.Reserved.{HasRoom}
use Rattle.ct_partition_files.proofs.written.id_pairs.Given as goal

abbrev pub invariant-loop-first : goal.invariant-loop-first
invariant-loop-first l =
    (map view l.values.items ++ map (pair_data string string) (drop l.first-index l.pairs) ≡ map (pair_data string string) l.pairs)
    × All AreIds (take l.first-index l.pairs)
    × HasRoom l.values l.first-index (length l.pairs)
