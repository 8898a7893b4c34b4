use Rattle.std.proofs.Common.{◌≡◌, take, map}
use Rattle.ct_slots.specs.Places.{entry_of_support}
use Rattle.ct_table_tests.proofs.closure.places_of.Given as goal

-- the places of the supports so far
abbrev pub invariant-loop-support : goal.invariant-loop-support
invariant-loop-support l = l.places ≡ map entry_of_support (take l.support-index l.supports)
