use Rattle.std.proofs.Common.{ℕ, ◌^◌, ◌<◌, ◌≤◌, bit_xor, List}
use Rattle.std.specs.Prelude.{◌≢◌}
use Rattle.ct_words.specs.Word.{weight}
use Rattle.ct_codes.specs.declared.light.Pivot.{Pivot}
use Rattle.ct_codes.specs.Inside.Light.{reduced, AreUnits}
use Rattle.ct_codes.proofs.light.+is_left_of_none.Given as goal

abbrev pub decreases-is_left_of_none : goal.decreases-is_left_of_none
decreases-is_left_of_none l = l.most

-- the sum is left of no such word whose ones have the places so far
abbrev pub invariant-loop-place : goal.invariant-loop-place
invariant-loop-place l = (pivots : List Pivot) → AreUnits pivots l.units → (y : ℕ) → y < 2 ^ l.place → weight 32 y ≤ l.most
    → bit_xor l.sum (reduced pivots y) ≢ 0
