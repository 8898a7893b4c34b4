use Rattle.std.proofs.Common.{sym, ◌∙◌}
use Rattle.ct_words.specs.declared.limits.TheConstants.{MAX_N}
use Rattle.ct_sum_classes.proofs.SizeLemmas.{zeros, size-empty_more}
use Rattle.ct_sum_classes.proofs.class_sizes.no_set.Goals as goal

pub returns : goal.returns
returns c = λ n k s within. zeros MAX_N s ∙ sym (size-empty_more n k s)
