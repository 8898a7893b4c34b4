use Rattle.std.proofs.Common.{◌≡◌, ◌++◌, option_map, drop}
use Rattle.ct_table.specs.Inside.Walk.{moved_places}
use Rattle.ct_table.proofs.left.moved_places.Given as goal

-- with the places of those that are left, the places so far are all
abbrev pub invariant-loop-place : goal.invariant-loop-place
invariant-loop-place l = moved_places l.base l.moved l.from
    ≡ option_map (λ more. l.places.items ++ more) (moved_places l.base l.moved (drop l.place-index l.from))
