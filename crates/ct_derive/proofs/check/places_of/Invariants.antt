use Rattle.std.proofs.Common.{◌≡◌, ◌-◌, map, take}
use Rattle.ct_derive.proofs.check.places_of.Given as goal

abbrev pub invariant-loop-number : goal.invariant-loop-number
invariant-loop-number l = l.places.items ≡ map (λ n. n - 1) (take l.number-index l.numbers)
