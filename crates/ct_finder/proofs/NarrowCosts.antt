-- The cost row with which a run ends as least has no wide entry: that of the opening has none, and no pivot is made that would give one.
use Rattle.std.proofs.Common.{◌≡◌, ℕ, ◌^◌, Bool, true, false, cond, List, [], ◌∷◌, ◌++◌, map, refl, arith}
use Rattle.std.specs.Prelude.{All, find, flat_map, ℤ, pos, ◌<ℤ◌, Some, None}
use Rattle.std.proofs.lemmas.Int.{ints}
use Rattle.std.proofs.lemmas.List.Elements.{All-nil, All-cons, All-head, All-tail, All-map}
use Rattle.ct_finder.specs.Column.{Column, Tableau, same_column, cost_entry, columns}
use Rattle.ct_finder.specs.Column.Column.{Z, A, S, Constant}
use Rattle.ct_finder.specs.Pivot.{pivoted, is_wide}
use Rattle.ct_finder.specs.Run.{run, coefficient}
use Rattle.ct_finder.specs.Run.End.{Least}
use Rattle.ct_finder.proofs.Ends.{end-of_run}

-- no entry is wide
abbrev pub IsNarrow : ℤ → Type 0
IsNarrow z = is_wide z ≡ false

-- where no entry of a list is found to be wide, none is
narrow-from_none : (xs ys : List ℤ) → find is_wide (xs ++ ys) ≡ None → All IsNarrow ys
narrow-from_none [] [] none = All-nil IsNarrow
narrow-from_none [] (y ∷ ys) none = go (is_wide y) refl none (narrow-from_none [] ys)
  where
    go : (t : Bool) → is_wide y ≡ t → cond t (Some y) (find is_wide ys) ≡ None → (find is_wide ys ≡ None → All IsNarrow ys) → All IsNarrow (y ∷ ys)
    go true is h ih = absurd cc
    go false is h ih = All-cons IsNarrow y ys is (ih h)
narrow-from_none (x ∷ xs) ys none = go (is_wide x) none (narrow-from_none xs ys)
  where
    go : (t : Bool) → cond t (Some x) (find is_wide (xs ++ ys)) ≡ None → (find is_wide (xs ++ ys) ≡ None → All IsNarrow ys) → All IsNarrow ys
    go true h ih = absurd cc
    go false h ih = ih h

-- a pivot that a run makes leaves a cost row without wide entries, and so it ends with such a row
pub narrow-at : (cs : List Column) (n : ℕ) (t last : Tableau) → All IsNarrow t.cost → run cs n t ≡ Least last → All IsNarrow last.cost
narrow-at cs n t last narrow is =
    (end-of_run (λ s. All IsNarrow s.cost) cs
    (λ s e i enters found none holds. narrow-from_none (flat_map (λ row. row) (pivoted e i s).rows) (pivoted e i s).cost none) n t last narrow is).kept

-- the opening cost row
pub narrow-cost : (range : List ℕ) (degree : ℕ) → All IsNarrow (map cost_entry (columns range degree))
narrow-cost range degree = All-map IsNarrow cost_entry (columns range degree) (λ i d l. narrow_at _)
  where
    narrow_at : (c : Column) → IsNarrow (cost_entry c)
    narrow_at Z = refl
    narrow_at (A i) = refl
    narrow_at (S k) = refl
    narrow_at Constant = refl

-- an entry of such a row is below 2^63
narrow-below : (z : ℤ) → IsNarrow z → z <ℤ pos (2 ^ 63)
narrow-below z h = grind (arith, ints)

pub coefficient-below : (cs : List Column) (row : List ℤ) (c : Column) → All IsNarrow row → coefficient cs row c <ℤ pos (2 ^ 63)
coefficient-below [] row c narrow = narrow-below (pos 0) refl
coefficient-below (x ∷ cs) [] c narrow = narrow-below (pos 0) refl
coefficient-below (x ∷ cs) (v ∷ row) c narrow = go (coefficient-below cs row c (All-tail IsNarrow v row narrow))
  where
    go : coefficient cs row c <ℤ pos (2 ^ 63) → coefficient (x ∷ cs) (v ∷ row) c <ℤ pos (2 ^ 63)
    go ih = by_column (same_column x c)
      where
        by_column : (t : Bool) → cond t v (coefficient cs row c) <ℤ pos (2 ^ 63)
        by_column true = narrow-below v (All-head IsNarrow v row narrow)
        by_column false = ih
