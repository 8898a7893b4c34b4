-- The finder's run: pivots of the simplex method until no a or s of the cost row is negative, and the dual that it ends with.
use Rattle.std.specs.Prelude.{◌≡◌, ℕ, zero, suc, ◌%◌, Bool, true, replicate, List, [], ◌∷◌, map, Some, None, ℤ, pos, if◌then◌else◌}
use Rattle.std.specs.List.{range_with_len}
use Rattle.ct_words.specs.declared.entry.Entry.{Entry}
use Rattle.ct_words.specs.Entry.{IsEntry}
use Rattle.ct_duals.specs.declared.dual.Dual.{Dual}
use Rattle.ct_duals.specs.Dual.{degree_of, IsMarkOf}
use Rattle.ct_finder.specs.Column.{Column, Tableau, range_of, columns, opening, same_column}
use Rattle.ct_finder.specs.Column.Column.{Z, S}
use Rattle.ct_finder.specs.Pivot.{entering, pivot_row, pivoted, first_wide}

-- how a run ends: with the least bound, and this tableau; after as many pivots as were asked for; before a pivot that would give this wide entry
pub data End : Type 0 where
  Least : Tableau → End
  Turns : End
  Wide : ℤ → End

-- how the run from a tableau ends, with at most so many pivots, each at the first column that may enter; one without a pivot row changes nothing
abbrev pub run : List Column → ℕ → Tableau → End
run cs zero t = elim (entering cs t.cost) [ None ↦ Least t | Some e ↦ Turns ]
run cs (suc n) t = elim (entering cs t.cost) [
  | None ↦ Least t
  | Some e ↦ elim (pivot_row e t) [
    | None ↦ run cs n t
    | Some i ↦ elim (first_wide (pivoted e i t)) [ None ↦ run cs n (pivoted e i t) | Some x ↦ Wide x ]
  ]
]

-- what a run is asked for: an entry of the table, and even distances alone only where there is no weight and d is even
pub record IsAsked (e : Entry) (even : Bool) : Type 0 where
  pub entry : IsEntry e
  pub even_distance : even ≡ true → e.d % 2 ≡ 0
  pub weighted : IsMarkOf e.w even

-- the run of an entry from its opening tableau, over these numbers of a scheme
abbrev pub run_of : (ℕ → ℕ → ℤ) → Entry → Bool → ℕ → End
run_of number e even pivots = run (columns (range_of e even) (degree_of e)) pivots (opening number (range_of e even) (degree_of e))

-- the entry of a row at a column, 0 where there is no such column
abbrev pub coefficient : List Column → List ℤ → Column → ℤ
coefficient [] row c = pos 0
coefficient (x ∷ cs) [] c = pos 0
coefficient (x ∷ cs) (v ∷ row) c = if same_column x c then v else coefficient cs row c

-- the dual of a run that ended with this cost row: its multipliers are the entries at z, and at s_1, s_2 and so on
abbrev pub run_dual : Entry → Bool → List ℤ → Dual
run_dual e even cost = record {
  entry = e;
  even = even;
  c =
      coefficient (columns (range_of e even) (degree_of e)) cost Z
      ∷ map (λ k. coefficient (columns (range_of e even) (degree_of e)) cost (S k)) (range_with_len 1 (degree_of e));
  y = [];
}

-- the dual whose multipliers are n + 1 ones, for an entry without weight
abbrev pub ones_dual : Entry → Bool → Dual
ones_dual e even = record { entry = e; even = even; c = replicate (suc e.n) (pos 1); y = [] }
