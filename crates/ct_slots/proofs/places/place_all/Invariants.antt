use Rattle.std.proofs.Common.{◌≡◌, map, take, length}
use Rattle.ct_slots.specs.Places.{entry_of_support, AreChained}
use Rattle.ct_slots.proofs.places.place_all.Given as goal

-- the supports so far have their places
abbrev pub invariant-loop-place : goal.invariant-loop-place
invariant-loop-place l = record {
  chained : AreChained (map entry_of_support (take l.place l.supports)) l.before l.last;
  entries : take l.place l.entries ≡ map entry_of_support (take l.place l.supports);
  entry_count : length l.entries ≡ length l.initial.entries;
  before_count : length l.before ≡ length l.initial.before;
}
