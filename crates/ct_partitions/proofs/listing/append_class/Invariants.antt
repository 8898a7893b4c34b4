use Rattle.std.proofs.Common.{◌≡◌, ◌++◌, take}
use Rattle.ct_partitions.specs.Product.{all_followed}
use Rattle.ct_partitions.proofs.listing.append_class.Given as goal

abbrev pub invariant-loop-x : goal.invariant-loop-x
invariant-loop-x l = l.words.items ≡ l.fn.words.items ++ all_followed l.m (take l.x-index l.first) l.second
