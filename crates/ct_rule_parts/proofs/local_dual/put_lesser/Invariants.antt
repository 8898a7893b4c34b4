-- The numbers of the places so far.
use Rattle.std.proofs.Common.{◌≡◌, ◌≤◌, take, length}
use Rattle.ct_rule_parts.specs.Local.{lesser}
use Rattle.ct_rule_parts.proofs.local_dual.put_lesser.Given as goal

abbrev pub invariant-loop-place : goal.invariant-loop-place
invariant-loop-place l =
    (take l.place l.row ≡ lesser (take l.place l.uppers) (take l.place l.others)) × (length l.others ≤ length l.row)
