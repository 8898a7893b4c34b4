-- What is pushed are the values of the classes before this one.
use Rattle.std.proofs.Common.{◌≡◌, ◌++◌, length, map, drop}
use Rattle.toml.specs.View.{view}
use Rattle.ct_fields.proofs.Reserved.{HasRoom}
use Rattle.ct_partition_files.proofs.WrittenLists.{texts_of_class}
use Rattle.ct_partition_files.proofs.written.class_list.Given as goal

abbrev pub invariant-loop-class : goal.invariant-loop-class
invariant-loop-class l =
    (map view l.values.items ++ map (texts_of_class l.n) (drop l.class-index l.classes) ≡ map (texts_of_class l.n) l.classes)
    × HasRoom l.values l.class-index (length l.classes)
