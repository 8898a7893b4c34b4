-- Evidence of kind partition: codes whose words are a code of a smaller distance together, its classes.
use Rattle.std.specs.Prelude.{ℕ, false, List, [], length, Some, None, option_map, codes}
use Rattle.ct_words.specs.declared.entry.Entry.{Entry}
use Rattle.ct_partitions.specs.Check.{partition_fault}
use Rattle.ct_classes.specs.Partition.{words_of_classes}
use Rattle.ct_rule_parts.specs.declared.support.Support.TheVariants.{Nothing}
use Rattle.ct_kind.specs.KindParts.{KindParts}
use Rattle.ct_kind.specs.declared.fault.SubmitFault.TheVariants as fault

-- a partition has no code; its size is the number of the words of all classes, which are stored; it gives nothing to the table
abbrev pub partition_kind : Entry → ℕ → List (List ℕ) → KindParts
partition_kind e between classes = record {
  text = codes "partition";
  entry = e;
  parts = [];
  reason = λ known. option_map fault.Partition (partition_fault e between classes);
  words = λ known. None;
  size = λ known. Some (length (words_of_classes classes));
  has_code = false;
  partition = Some (record { entry = e; between = between; classes = classes });
  listed = length (words_of_classes classes);
  is_stored = false;
  gives = λ size. Nothing;
}
