use Rattle.ct_words.proofs.ListedEntries.{listed, once, count, all_entries}
use Rattle.ct_laws.proofs.math.codes.table_entries_are_all.Goals as goal

pub returns : goal.returns
returns c = record { each = λ e. (listed e, all_entries e); once = once; count = count }
