use Rattle.std.proofs.Common.{refl}
use Rattle.ct_words.specs.Word.{distance, weight}
use Rattle.ct_partitions.specs.Check.{partition_fault}
use Rattle.ct_laws.proofs.math.partitions.known_partitions.Goals as goal

pub returns : goal.returns
unfolding distance weight partition_fault
returns c = record {
  accepted = refl;
  close = refl;
  close_in_class = refl;
  no_class = refl;
  empty_class = refl;
  repeated = refl;
  weight_first = refl;
  count_before_weight = refl;
}
