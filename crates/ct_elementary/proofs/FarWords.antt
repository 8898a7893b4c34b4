-- Words of n digits differ at no more than n places.
use Rattle.std.proofs.Common.{ℕ, ◌<◌, ◌≤◌, List, [], ◌∷◌, length, arith}
use Rattle.std.specs.Prelude.{Bool}
use Rattle.ct_words.proofs.Counting.Spread.{IsSpread}
use Rattle.ct_words.proofs.Counting.Distances.{apart-le-length}

-- so at most one word has distance above n
pub spread_far : (n d : ℕ) → n < d → (cs : List (List Bool)) → IsSpread n d cs → length cs ≤ 1
spread_far n d h [] spread = omega arith
spread_far n d h (x ∷ []) spread = omega arith
spread_far n d h (x ∷ y ∷ cs) spread =
    let long = spread.lengths 0 [] (omega arith) in
    let far = spread.distances 0 1 [] (omega arith) (omega arith) in
    let near = apart-le-length x y in
    absurd (omega arith)
