-- With those that are left what is read is that of all values.
use Rattle.std.proofs.Common.{◌≡◌, length, drop}
use Rattle.toml.specs.View.{items_view}
use Rattle.ct_fields.specs.Forms.{all_of}
use Rattle.ct_fields.specs.Cites.{cite_in}
use Rattle.ct_fields.proofs.Reserved.{HasRoom}
use Rattle.ct_fields.proofs.ReadLists.{read_on}
use Rattle.ct_fields.proofs.cites.all_cites.Given as goal

abbrev pub invariant-loop-value : goal.invariant-loop-value
invariant-loop-value l =
    (read_on l.cites.items (all_of cite_in (items_view (drop l.value-index l.values))) ≡ all_of cite_in (items_view l.values))
    × HasRoom l.cites l.value-index (length l.values)
