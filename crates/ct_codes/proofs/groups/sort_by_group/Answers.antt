use Rattle.std.proofs.Common.{rules}
use Rattle.std.proofs.lemmas.List.Sorted.{IsNonDecreasingBy-from_sort_by_key}
use Rattle.ct_codes.specs.Inside.Groups.{group_digits}
use Rattle.ct_codes.proofs.groups.sort_by_group.Goals as goal

pub returns-clause-far : goal.returns-clause-far
returns-clause-far c = λ far.
    c.are_far_in_group.ensures far
    (IsNonDecreasingBy-from_sort_by_key (group_digits c.args.shift c.args.width) _ c.sort_unstable_by_key.ensures.sorted (λ a r q k. search rules))
