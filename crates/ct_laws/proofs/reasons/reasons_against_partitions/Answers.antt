use Rattle.ct_laws.proofs.PartitionReasons.{partition-reasons}
use Rattle.ct_laws.proofs.reasons.reasons_against_partitions.Goals as goal

pub returns : goal.returns
returns c = λ known e between classes reason. let says = partition-reasons known e between classes in (says.told reason, says.tells reason)
