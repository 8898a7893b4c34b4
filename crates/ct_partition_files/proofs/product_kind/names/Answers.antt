use Rattle.std.proofs.Common.{◌∙◌}
use Rattle.ct_partition_files.proofs.ProductKind.{ids_any}
use Rattle.ct_partition_files.proofs.product_kind.names.Goals as goal

pub returns : goal.returns
returns c = c.has_pair.ensures ∙ ids_any c.args.id c.args.pairs.now
