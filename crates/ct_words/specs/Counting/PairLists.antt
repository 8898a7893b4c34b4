-- Lists of ordered pairs of elements that are taken from different places of a list, and products over a list.
use Rattle.std.specs.Prelude.{◌≡◌, ◌≢◌, ℕ, zero, suc, ℤ, pos, ◌*ℤ◌, List, [], ◌∷◌, map, length}
use Rattle.std.specs.List.{All, AllPairs, Contains, flat_map}

-- each way to take one element out of a list: the element, and the others in their order
abbrev pub picks : {X : Type 0} → List X → List (X × List X)
picks [] = []
picks (x ∷ xs) = (x, xs) ∷ map (λ p. (p.0, x ∷ p.1)) (picks xs)

-- the lists of k ordered pairs of elements whose 2k elements are taken from different places of the list
abbrev pub pair_lists : {X : Type 0} → ℕ → List X → List (List (X × X))
pair_lists zero xs = [] ∷ []
pair_lists (suc k) xs = flat_map (λ p. flat_map (λ q. map (λ pairs. (p.0, q.0) ∷ pairs) (pair_lists k q.1)) (picks p.1)) (picks xs)

-- the product of the whole numbers f x over the elements x of a list
abbrev pub product : {X : Type 0} → (X → ℤ) → List X → ℤ
product f [] = pos 1
product f (x ∷ xs) = f x *ℤ product f xs

-- the elements of a list of pairs, in order
abbrev pub ends : {X : Type 0} → List (X × X) → List X
ends pairs = flat_map (λ p. p.0 ∷ p.1 ∷ []) pairs

-- k ordered pairs of elements of xs, all 2k elements different
pub record IsPairing (xs : List ℕ) (k : ℕ) (pairs : List (ℕ × ℕ)) : Type 0 where
  pub count : length pairs ≡ k
  pub within : All (Contains xs) (ends pairs)
  pub different : AllPairs (λ x y. x ≢ y) (ends pairs)
