-- With those that are left what is read is that of all values.
use Rattle.std.proofs.Common.{◌≡◌, length, drop}
use Rattle.toml.specs.View.{items_view}
use Rattle.ct_fields.specs.Forms.{all_of}
use Rattle.ct_fields.proofs.Reserved.{HasRoom}
use Rattle.ct_fields.proofs.ReadLists.{read_on}
use Rattle.ct_fields.proofs.forms.all_of.Given as goal

abbrev pub invariant-loop-value : goal.invariant-loop-value
invariant-loop-value g l =
    (read_on l.all.items (all_of g.T.Form.form (items_view (drop l.value-index l.values))) ≡ all_of g.T.Form.form (items_view l.values))
    × HasRoom l.all l.value-index (length l.values)
