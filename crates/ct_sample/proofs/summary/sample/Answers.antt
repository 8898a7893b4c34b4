use Rattle.std.proofs.Common.{All, sym, ◌∙◌, subst}
use Rattle.ct_words.specs.Entry.{IsEntry}
use Rattle.ct_sample.proofs.summary.sample.Goals as goal

pub summary_after-requires-clause-listed : goal.summary_after-requires-clause-listed
summary_after-requires-clause-listed c = c.deref.ensures.value ∙ c.in_ok-entries.ensures.listed

pub summary_after-requires-clause-in_table : goal.summary_after-requires-clause-in_table
summary_after-requires-clause-in_table c = subst (All IsEntry) (sym c.deref.ensures.value) c.in_ok-entries.ensures.in_table
