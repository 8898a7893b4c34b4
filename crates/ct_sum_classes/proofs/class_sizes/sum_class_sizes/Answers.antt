use Rattle.std.proofs.Common.{sym, ◌∙◌, arith}
use Rattle.ct_sum_classes.proofs.SizeLemmas.{size-is}
use Rattle.ct_sum_classes.proofs.class_sizes.sum_class_sizes.Goals as goal

pub returns : goal.returns
returns c = λ r within.
    c.sizes_up_to.ensures c.args.w (omega arith) r within ∙ sym (size-is c.args.n c.args.w r)
