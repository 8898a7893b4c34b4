-- With those that are left the lists are those of all values.
use Rattle.std.proofs.Common.{◌≡◌, ◌++◌, length, drop, option_map}
use Rattle.toml.specs.View.{items_view}
use Rattle.ct_partition_files.specs.Lists.{lists_behind, text_lists_of}
use Rattle.ct_fields.proofs.Reserved.{HasRoom}
use Rattle.ct_partition_files.proofs.lists.text_lists_of.Given as goal

abbrev pub invariant-loop-value : goal.invariant-loop-value
invariant-loop-value l =
    (option_map (λ rest. lists_behind l.lists.items ++ rest) (text_lists_of (items_view (drop l.value-index l.values)))
    ≡ text_lists_of (items_view l.values))
    × HasRoom l.lists l.value-index (length l.values)
