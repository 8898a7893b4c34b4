use Rattle.std.proofs.Common.{◌≡◌, false, true, length, sym, rules}
use Rattle.ct_partition_files.specs.Pairs.{is_pair_count}
use Rattle.ct_partition_files.proofs.PairLemmas.{pairs_in-counted, pairs_in-miscounted}
use Rattle.ct_partition_files.proofs.pairs.pairs_of.Goals as goal

pub returns-then-not-is_pair_count : goal.returns-then-not-is_pair_count
returns-then-not-is_pair_count c =
    let wrong : is_pair_count c.args.w (length c.args.values.now) ≡ false = search rules in
    sym (pairs_in-miscounted c.args.w c.args.values.now wrong)

pub returns : goal.returns
returns c =
    let right : is_pair_count c.args.w (length c.args.values.now) ≡ true = search rules in
    rw (pairs_in-counted c.args.w c.args.values.now right) c.all_of.ensures
