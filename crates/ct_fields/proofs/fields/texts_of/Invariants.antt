-- With those that are left what is read is that of all values.
use Rattle.std.proofs.Common.{◌≡◌, length, drop}
use Rattle.toml.specs.Data.{as_str}
use Rattle.toml.specs.View.{items_view}
use Rattle.ct_fields.specs.Reads.{texts_behind}
use Rattle.ct_fields.specs.Forms.{all_of}
use Rattle.ct_fields.proofs.Reserved.{HasRoom}
use Rattle.ct_fields.proofs.ReadLists.{read_on}
use Rattle.ct_fields.proofs.fields.texts_of.Given as goal

abbrev pub invariant-loop-value : goal.invariant-loop-value
invariant-loop-value l =
    (read_on (texts_behind l.texts.items) (all_of as_str (items_view (drop l.value-index l.values))) ≡ all_of as_str (items_view l.values))
    × HasRoom l.texts l.value-index (length l.values)
