use Rattle.std.proofs.Common.{ℕ, ◌^◌, ◌<◌, List}
use Rattle.std.specs.Prelude.{◌≢◌}
use Rattle.ct_words.specs.Word.{weight}
use Rattle.ct_codes.specs.declared.light.Pivot.{Pivot}
use Rattle.ct_codes.specs.Inside.Light.{reduced, AreUnits}
use Rattle.ct_codes.proofs.light.leaves_light_words.Given as goal

-- something is left of each light word whose ones have the places so far
abbrev pub invariant-loop-place : goal.invariant-loop-place
invariant-loop-place l = (pivots : List Pivot) → AreUnits pivots l.units → (y : ℕ) → y < 2 ^ l.place → 0 < y → weight 32 y < l.d
    → reduced pivots y ≢ 0
