use Rattle.std.proofs.Common.{◌≡◌, ap, sym, ◌∙◌, Some, Result, Ok, Err}
use Rattle.std.specs.Prelude.{◌≢◌, IfErr}
use Rattle.std.specs.Result.{IsErrAnd}
use Rattle.ct_classes.specs.declared.fault.PartitionFault.{PartitionFault}
use Rattle.ct_classes.specs.declared.fault.PartitionFault.TheVariants.{Memory}
use Rattle.ct_classes.specs.Partition.{word_lists}
use Rattle.ct_partitions.specs.Check.{partition_fault}
use Rattle.ct_partitions.proofs.PartitionFaults.{sound_from_check}
use Rattle.ct_partitions.proofs.check.check_partition.Goals as goal

pub from_classes-requires : goal.from_classes-requires
from_classes-requires c =
    let no_fault = sym (ap (λ vs. partition_fault c.args.entry c.args.between (word_lists vs)) c.deref.ensures.value)
    ∙ sym c.in_ok-fault.ensures ∙ c.in-None.is in
    record {
      partition = sound_from_check c.args.entry c.args.between (word_lists c.args.classes.items) c.requires.entry c.requires.some
          c.requires.nearer c.requires.words no_fault;
    }

pub returns-in-None-clause-value : goal.returns-in-None-clause-value
returns-in-None-clause-value c = c.from_classes.ensures.value

-- want of memory says nothing of the lists
unless_memory : {T : Type 0} (r : Result T PartitionFault) (P : PartitionFault → Type 0) → IsErrAnd r (λ fault. fault ≡ Memory)
    → IfErr r (λ fault. fault ≢ Memory → P fault)
unless_memory (Ok v) P none = tt
unless_memory (Err fault) P is = λ other. absurd (other is)

pub returns-in_err-fault-clause-fault : goal.returns-in_err-fault-clause-fault
returns-in_err-fault-clause-fault c =
    unless_memory c.from_residual.result (λ fault. partition_fault c.args.entry c.args.between (word_lists c.args.classes.items) ≡ Some fault)
    c.from_residual.ensures.1
