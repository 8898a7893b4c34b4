use Rattle.ct_partitions.proofs.PartitionFaults.{needs_of_partition}
use Rattle.ct_laws.proofs.math.partitions.words_of_partitions.Goals as goal

pub returns : goal.returns
returns c = needs_of_partition
