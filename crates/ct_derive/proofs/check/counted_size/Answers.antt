use Rattle.std.proofs.Common.{Some, subst}
use Rattle.ct_words.proofs.EntryLemmas.{WeightFits, entry_limits}
use Rattle.ct_derive.proofs.check.counted_size.Goals as goal

pub size-requires-clause-weight : goal.size-requires-clause-weight
size-requires-clause-weight c =
    let fits : WeightFits c.args.entry (Some c.in-Some.w) = subst (WeightFits c.args.entry) c.in-Some.is (entry_limits c.args.entry c.requires).weight in
    fits.2
