-- What stands in lists that are put together, and in a part of a list.
use Rattle.std.proofs.Common.{◌≡◌, ℕ, zero, suc, ◌+◌, ◌-◌, ◌<◌, ◌≤◌, Bool, true, List, [], ◌∷◌, filter, Contains, flat_map, ap, ◌∙◌, arith, inl, inr}
use Rattle.std.specs.List.{range_with_len}
use Rattle.std.proofs.lemmas.Bool.{cases_Bool}
use Rattle.std.proofs.lemmas.List.Elements.{Contains-append_left, Contains-append_right}
use Rattle.std.proofs.lemmas.List.FromFn.{length-range_with_len, get_or-range_with_len}

-- a number between the ends of a range stands in it
pub Contains-range_with_len : (low count i : ℕ) → low ≤ i → i < low + count → Contains (range_with_len low count) i
Contains-range_with_len low count i h k = (
  i - low,
  omega (arith, length-range_with_len low count),
  omega (arith, get_or-range_with_len low count (i - low) i (omega arith)),
)

-- what stands in a list that is put together from others stands in it
pub Contains-flat_map : {X Y : Type 0} (f : X → List Y) (xs : List X) (x : X) (y : Y) → Contains xs x
    → Contains (f x) y → Contains (flat_map f xs) y
Contains-flat_map f [] x y h k = absurd (omega arith)
Contains-flat_map f (z ∷ xs) x y (zero, within, is) k =
    Contains-append_left (f z) (flat_map f xs) y (rw is k)
Contains-flat_map f (z ∷ xs) x y (suc i, within, is) k =
    Contains-append_right (f z) (flat_map f xs) y (Contains-flat_map f xs x y (i, omega arith, is) k)

-- an item that passes is among those that pass
pub Contains-filter : {X : Type 0} (p : X → Bool) (xs : List X) (x : X) → p x ≡ true → Contains xs x → Contains (filter p xs) x
Contains-filter p [] x passes (k, within, is) = absurd (omega arith)
Contains-filter p (y ∷ ys) x passes (zero, within, is) = rw (ap p is ∙ passes) (0, omega arith, is)
Contains-filter p (y ∷ ys) x passes (suc k, within, is) =
    let rest = Contains-filter p ys x passes (k, omega arith, is) in
    elim (cases_Bool (p y)) [
      | inl kept ↦ let inside = rest.1 in rw kept (suc rest.0, omega arith, rest.2)
      | inr dropped ↦ rw dropped rest
    ]
