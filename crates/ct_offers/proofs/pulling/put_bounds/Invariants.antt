-- The bounds of the entries so far.
use Rattle.std.proofs.Common.{◌≡◌, map, take, length}
use Rattle.ct_words.specs.declared.limits.TheConstants.{MAX_N}
use Rattle.ct_duals.specs.Bound.{dual_premises}
use Rattle.ct_rule_parts.specs.Parts.{slots_on}
use Rattle.ct_slots.specs.Number.{bound_of}
use Rattle.ct_offers.proofs.pulling.put_bounds.Given as goal

abbrev pub invariant-loop-place : goal.invariant-loop-place
invariant-loop-place l = (take l.place l.row ≡ map (bound_of l.bounds) (slots_on l.side (take l.place (dual_premises l.dual.dual))))
    × (length l.row ≡ MAX_N)
