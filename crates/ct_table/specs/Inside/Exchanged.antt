-- Two lists that exchange the items at some places.
use Rattle.std.specs.Prelude.{suc, if◌then◌else◌, List, [], ◌∷◌}
use Rattle.ct_rules.specs.Removal.{Places}

-- the first list, with the items of the other one at the places of the set
unfoldable pub exchanged : {X : Type 0} → Places → List X → List X → List X
exchanged gone [] others = []
exchanged gone (x ∷ xs) [] = x ∷ xs
exchanged gone (x ∷ xs) (y ∷ ys) = (if gone 0 then y else x) ∷ exchanged (λ p. gone (suc p)) xs ys
