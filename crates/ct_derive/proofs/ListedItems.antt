-- What is listed for each item of a list, one item more.
use Rattle.std.proofs.Common.{◌≡◌, ◌++◌, ℕ, ◌+◌, ◌<◌, [], ◌∷◌, List, length, get_or, map, take, ap₂, sym, ◌∙◌}
use Rattle.std.proofs.lemmas.List.{map_more}

pub listed_more : {X Y : Type 0} (f : X → Y) (xs : List X) (i : ℕ) (d : X) (ys zs : List Y) (y : Y) → i < length xs → zs ≡ ys ++ y ∷ []
    → ys ≡ map f (take i xs) → y ≡ f (get_or xs i d) → zs ≡ map f (take (i + 1) xs)
listed_more f xs i d ys zs y within more so_far this =
    more ∙ ap₂ (λ l z. l ++ z ∷ []) so_far this ∙ sym (map_more f xs i d within)
