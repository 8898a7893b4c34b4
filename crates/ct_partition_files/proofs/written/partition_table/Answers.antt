use Rattle.ct_classes.specs.Partition.{word_lists}
use Rattle.ct_partition_files.proofs.Classes.{short_classes}
use Rattle.ct_partition_files.proofs.written.partition_table.Goals as goal

pub class_list-requires-clause-words : goal.class_list-requires-clause-words
class_list-requires-clause-words c = short_classes c.args.entry.n (word_lists c.args.classes.now) c.requires.words
