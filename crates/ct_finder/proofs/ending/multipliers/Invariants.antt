use Rattle.std.proofs.Common.{◌≡◌, ◌∷◌, get_or, take}
use Rattle.std.specs.Prelude.{pos}
use Rattle.ct_finder.proofs.ending.multipliers.Given as goal

-- the entries so far
abbrev pub invariant-loop-entry : goal.invariant-loop-entry
invariant-loop-entry l = l.numbers.items ≡ get_or l.cost 0 (pos 0) ∷ take l.entry-index l.entries
