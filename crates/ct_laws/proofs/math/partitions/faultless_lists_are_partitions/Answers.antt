use Rattle.ct_partitions.proofs.PartitionFaults.{partition_from_no_fault, no_fault_of_partition}
use Rattle.ct_laws.proofs.math.partitions.faultless_lists_are_partitions.Goals as goal

pub returns : goal.returns
returns c = λ e between classes some nearer below. (
  λ none.
      let whole = partition_from_no_fault e between classes some nearer below none in
      (whole.0.class_count.0, whole.0.class_count.1, whole.0.no_empty_class, whole.0.few_words, whole.1),
  λ h.
      no_fault_of_partition e between classes some nearer (record { class_count = (h.0, h.1); no_empty_class = h.2; few_words = h.3 }) h.4,
)
