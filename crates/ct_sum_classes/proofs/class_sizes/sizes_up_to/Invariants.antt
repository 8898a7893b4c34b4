use Rattle.ct_sum_classes.specs.Inside.Sizes.{IsTable}
use Rattle.ct_sum_classes.proofs.class_sizes.sizes_up_to.Given as goal

abbrev pub invariant-loop-element : goal.invariant-loop-element
invariant-loop-element l = IsTable l.n l.element l.w l.table
