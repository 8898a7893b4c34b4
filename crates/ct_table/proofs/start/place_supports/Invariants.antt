use Rattle.std.proofs.Common.{◌≡◌, map, take, All}
use Rattle.ct_slots.specs.Places.{entry_of_support}
use Rattle.ct_table.specs.Inside.Starting.{IsMarkedIfGiven}
use Rattle.ct_table.proofs.start.place_supports.Given as goal

-- the supports so far have their places, and their slots are marked
abbrev pub invariant-loop-support : goal.invariant-loop-support
invariant-loop-support l =
    (l.places ≡ map entry_of_support (take l.support-index l.supports))
    × All (IsMarkedIfGiven l.work) (take l.support-index l.supports)
