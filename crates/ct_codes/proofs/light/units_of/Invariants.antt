use Rattle.std.proofs.Common.{◌≡◌, length}
use Rattle.ct_codes.specs.Inside.Light.{AreUnits}
use Rattle.ct_codes.proofs.light.units_of.Given as goal

abbrev pub invariant-loop-place : goal.invariant-loop-place
invariant-loop-place l = record {
  size : length l.units.items ≡ l.place;
  units : AreUnits l.pivots l.units.items;
}
