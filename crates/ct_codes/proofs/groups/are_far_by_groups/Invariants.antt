use Rattle.std.proofs.Common.{ℕ, ◌*◌, ◌<◌, IsPermutation}
use Rattle.ct_codes.specs.Inside.Groups.{AreFarWhereSame}
use Rattle.ct_codes.proofs.groups.are_far_by_groups.Given as goal

-- the words that have the same digits in one of the groups so far are far
abbrev pub invariant-loop-group : goal.invariant-loop-group
invariant-loop-group l = record {
  moved : IsPermutation l.words l.sorted.items;
  far : (g : ℕ) → g < l.group → AreFarWhereSame (g * l.width) l.width l.d l.words;
}
