use Rattle.std.proofs.Common.{ℕ, List, [], arith}
use Rattle.ct_words.specs.declared.limits.TheConstants.{MAX_N}
use Rattle.ct_sum_classes.specs.Inside.Sizes.{IsRow}
use Rattle.ct_sum_classes.proofs.SizeLemmas.{each_of_first}
use Rattle.ct_sum_classes.proofs.class_sizes.no_element.Goals as goal

pub returns : goal.returns
returns c = λ n some k within. each_of_first {X =
    List ℕ} (λ j row. IsRow n 0 j row) c.one_set.result c.no_set-table.result [] (c.one_set.ensures n some)
    (λ j. c.no_set-table.ensures n j) MAX_N k (omega arith)
