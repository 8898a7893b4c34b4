use Rattle.std.proofs.Common.{◌≡◌, ◌++◌, length, map, drop, take, IsTrue}
use Rattle.std.specs.Prelude.{All}
use Rattle.toml.specs.Data.{string}
use Rattle.toml.specs.View.{view}
use Rattle.ct_names.specs.Cite.{is_cite}
use Rattle.ct_fields.proofs.Reserved.{HasRoom}
use Rattle.ct_fields.proofs.cites.cite_values.Given as goal

abbrev pub invariant-loop-cite : goal.invariant-loop-cite
invariant-loop-cite l =
    (map view l.values.items ++ map string (drop l.cite-index l.cites) ≡ map string l.cites)
    × All (λ cite. IsTrue (is_cite cite)) (take l.cite-index l.cites)
    × HasRoom l.values l.cite-index (length l.cites)
