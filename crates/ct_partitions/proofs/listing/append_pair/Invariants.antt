use Rattle.std.proofs.Common.{◌≡◌, ◌++◌, take}
use Rattle.ct_partitions.specs.Product.{class_products}
use Rattle.ct_partitions.proofs.listing.append_pair.Given as goal

abbrev pub invariant-loop-class : goal.invariant-loop-class
invariant-loop-class l = l.words.items ≡ l.fn.words.items ++ class_products l.second.entry.n (take l.class l.first.classes)
    (take l.class l.second.classes)
