use Rattle.std.proofs.Common.{◌≡◌, ◌*◌, length, take, sum_by}
use Rattle.std.specs.List.{zip}
use Rattle.ct_partitions.proofs.product.pair_size.Given as goal

abbrev pub invariant-loop-class : goal.invariant-loop-class
invariant-loop-class l = l.size ≡ sum_by (λ c. length c.0 * length c.1) (take l.class (zip l.first.classes l.second.classes))
