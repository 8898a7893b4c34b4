-- With those that are left the classes are those of all lists.
use Rattle.std.proofs.Common.{◌≡◌, length, drop}
use Rattle.ct_fields.proofs.Reserved.{HasRoom}
use Rattle.ct_partition_files.proofs.ReadClasses.{classes_on}
use Rattle.ct_partition_files.specs.Lists.{lists_behind, classes_from}
use Rattle.ct_partition_files.proofs.lists.classes_from.Given as goal

abbrev pub invariant-loop-texts : goal.invariant-loop-texts
invariant-loop-texts l =
    (classes_on l.classes.items (classes_from l.n l.first (lists_behind (drop l.texts-index l.lists))) ≡ classes_from l.n 0 (lists_behind l.lists))
    × HasRoom l.classes l.texts-index (length l.lists)
