use Rattle.ct_partition_files.proofs.partition_kind.check.Goals as goal

pub partition_fault-requires-clause-words : goal.partition_fault-requires-clause-words
partition_fault-requires-clause-words c = c.requires.words
