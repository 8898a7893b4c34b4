-- What each row of a run is: a sum of the opening rows.
use Rattle.std.specs.Prelude.{◌≡◌, ℕ, zero, suc, List, map, length, Option, Some, None, All, ℤ, pos, ◌+ℤ◌, ◌*ℤ◌, ◌≤ℤ◌}
use Rattle.ct_words.specs.Counting.Alternating.{total_below}
use Rattle.ct_finder.specs.Column.{Column, Tableau, cost_entry, opening_entry}
use Rattle.ct_finder.specs.Column.Column.{Z, S}
use Rattle.ct_finder.specs.Pivot.{entering, pivot_row, pivoted}
use Rattle.ct_finder.specs.Run.{coefficient}

-- the opening row of k, as the list of its entries
abbrev pub opening_row : (ℕ → ℕ → ℤ) → List Column → ℕ → List ℤ
opening_row number cs k = map (opening_entry number k) cs

-- the sum of the opening rows, each times the row's entry at that opening row's s_k, the cost row times its entry at z; at a column
abbrev pub sum_of_opening : (ℕ → ℕ → ℤ) → List Column → ℕ → List ℤ → Column → ℤ
sum_of_opening number cs degree row c =
    (coefficient cs row Z *ℤ coefficient cs (map cost_entry cs) c)
    +ℤ total_below (λ k. coefficient cs row (S (suc k)) *ℤ coefficient cs (opening_row number cs (suc k)) c) degree

-- the row is that sum
abbrev pub IsSum : (ℕ → ℕ → ℤ) → List Column → ℕ → List ℤ → Type 0
IsSum number cs degree row = (c : Column) → coefficient cs row c ≡ sum_of_opening number cs degree row c

-- the tableau after a pivot, of whatever size its entries are
abbrev pub next_at : ℕ → Option ℕ → Tableau → Tableau
next_at e None t = t
next_at e (Some i) t = pivoted e i t

-- the tableau after a pivot at the column that enters, where one does
abbrev pub next_from : Option ℕ → Tableau → Tableau
next_from None t = t
next_from (Some e) t = next_at e (pivot_row e t) t

-- the tableau after so many pivots
abbrev pub after : List Column → ℕ → Tableau → Tableau
after cs zero t = t
after cs (suc n) t = after cs n (next_from (entering cs t.cost) t)

-- each row is a sum of the opening rows, with none of the cost row in it but in the cost row itself, which has at least one
pub record AreSums (number : ℕ → ℕ → ℤ) (cs : List Column) (degree : ℕ) (t : Tableau) : Type 0 where
  pub rows : All (IsSum number cs degree) t.rows
  pub cost : IsSum number cs degree t.cost
  pub none_of_cost : All (λ row. coefficient cs row Z ≡ pos 0) t.rows
  pub some_of_cost : pos 1 ≤ℤ coefficient cs t.cost Z

-- each row has an entry for each of so many columns
pub record HasWidth (width : ℕ) (t : Tableau) : Type 0 where
  pub rows : All (λ row. length row ≡ width) t.rows
  pub cost : length t.cost ≡ width
