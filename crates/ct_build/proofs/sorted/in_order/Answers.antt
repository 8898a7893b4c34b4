use Rattle.std.proofs.lemmas.List.Sorted.{IsPermutation-refl, IsPermutation-trans}
use Rattle.ct_build.proofs.sorted.in_order.Goals as goal

pub returns-then-not-is_sorted-clause-permutation : goal.returns-then-not-is_sorted-clause-permutation
returns-then-not-is_sorted-clause-permutation c =
    IsPermutation-trans c.args.words.items c.reverse.new.self.items c.sort_unstable.new.self.items
    c.reverse.ensures.permutation c.sort_unstable.ensures.permutation

pub returns-then-is_sorted-clause-permutation : goal.returns-then-is_sorted-clause-permutation
returns-then-is_sorted-clause-permutation c = IsPermutation-refl c.args.words.items
