-- Evidence of kind partition.
use Rattle.std.proofs.Common.{◌≡◌, ℕ, ◌^◌, ◌<◌, ◌≤◌, List, None, option_map, refl, ap}
use Rattle.std.specs.Prelude.{All}
use Rattle.ct_words.specs.declared.entry.Entry.{Entry}
use Rattle.ct_words.specs.Entry.{IsEntry}
use Rattle.ct_classes.specs.Partition.{words_of_classes, IsPartition}
use Rattle.ct_partitions.specs.Check.{partition_fault, wrong_count}
use Rattle.ct_partitions.proofs.PartitionFaults.{sizes_of_count, no_fault_of_partition, sound_from_check}
use Rattle.ct_kind.specs.Named.{NamedCode}
use Rattle.ct_kind.specs.declared.fault.SubmitFault.TheVariants as fault
use Rattle.ct_kind.proofs.Stating.{option_map-none, StatesWell, SaysSame}
use Rattle.ct_partition_files.specs.PartitionKind.{partition_kind}

-- classes against which there is no reason are a partition
pub partition_states : (known : List NamedCode) (e : Entry) (between : ℕ) (classes : List (List ℕ)) → IsEntry e → 1 ≤ between → between ≤ e.d
    → All (λ x. x < 2 ^ e.n) (words_of_classes classes) → (partition_kind e between classes).reason known ≡ None
    → StatesWell (partition_kind e between classes) known (IsPartition e.n e.d e.w between classes)
partition_states known e between classes entry some nearer within own =
    let is = sound_from_check e between classes entry some nearer within (option_map-none fault.Partition (partition_fault e between classes) own) in
    record {
      entry = entry;
      checked = is.partition;
      coded = refl;
      code = tt;
      size = λ yes. absurd cc;
      partition = is;
      stands = tt;
    }

-- classes that are a partition have no reason against them
pub partition_accepted : (known : List NamedCode) (e : Entry) (between : ℕ) (classes : List (List ℕ)) → 1 ≤ between → between ≤ e.d
    → wrong_count classes ≡ None → IsPartition e.n e.d e.w between classes → (partition_kind e between classes).reason known ≡ None
partition_accepted known e between classes some nearer right is =
    ap (option_map fault.Partition) (no_fault_of_partition e between classes some nearer (sizes_of_count classes right) is)

-- they are the same over all pieces
pub partition_same : (e : Entry) (between : ℕ) (classes : List (List ℕ)) (left right : List NamedCode) → SaysSame (partition_kind e between classes) left right
partition_same e between classes left right = record { reason = refl; words = refl; size = refl }
