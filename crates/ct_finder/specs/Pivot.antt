-- A pivot of the simplex method over rows of whole numbers, with the least-index rule (Bland 1977).
use Rattle.std.specs.Prelude.{ℕ, ◌-◌, ◌^◌, Bool, not, ◌&&◌, ◌||◌, nat_lt, List, [], ◌++◌, map, length, get_or, set, zip, position, find, flat_map, Option, ℤ, pos, ◌*ℤ◌, ◌-ℤ◌, int_lt, int_le, unsigned_abs}
use Rattle.std.specs.List.{list_all}
use Rattle.ct_finder.specs.Column.{Column, is_choice, Tableau}
use Rattle.ct_finder.specs.Divisor.{reduced}

-- the entry of a row at a place
abbrev pub at : List ℤ → ℕ → ℤ
at row e = get_or row e (pos 0)

-- the constant of a row, its last entry
abbrev pub constant_of : List ℤ → ℤ
constant_of row = at row (length row - 1)

-- the place of the entering column: the first a or s at which the cost row is negative
abbrev pub entering : List Column → List ℤ → Option ℕ
entering cs cost = position (λ p. is_choice p.0 && int_lt p.1 (pos 0)) (zip cs cost)

-- a row with its basic column is a candidate for the pivot row where its entry at the entering column is positive
abbrev pub is_candidate : ℕ → List ℤ × ℕ → Bool
is_candidate e l = int_lt (pos 0) (at l.0 e)

-- a candidate comes before another where its constant over its entry is the smaller, or they are equal and its basic column comes first
abbrev pub comes_before : ℕ → List ℤ × ℕ → List ℤ × ℕ → Bool
comes_before e l m =
    int_lt (constant_of l.0 *ℤ at m.0 e) (constant_of m.0 *ℤ at l.0 e)
    || (int_le (constant_of l.0 *ℤ at m.0 e) (constant_of m.0 *ℤ at l.0 e) && nat_lt l.1 m.1)

-- the place of the pivot row: the first candidate that no candidate comes before
abbrev pub pivot_row : ℕ → Tableau → Option ℕ
pivot_row e t =
    position (λ l. is_candidate e l && list_all (λ m. not (is_candidate e m && comes_before e m l)) (zip t.rows t.basics)) (zip t.rows t.basics)

-- a row R once the pivot row P has entered at e: p · R - r · P, with the entries p and r of both at e, divided by the greatest common divisor of its entries
abbrev pub pivoted_row : ℕ → List ℤ → List ℤ → List ℤ
pivoted_row e pivot row = reduced (map (λ v. (at pivot e *ℤ v.0) -ℤ (at row e *ℤ v.1)) (zip row pivot))

-- the tableau once the row at the place i has entered at e: this row stays, and e is its basic column
abbrev pub pivoted : ℕ → ℕ → Tableau → Tableau
pivoted e i t = record {
  rows = set (map (pivoted_row e (get_or t.rows i [])) t.rows) i (get_or t.rows i []);
  basics = set t.basics i e;
  cost = pivoted_row e (get_or t.rows i []) t.cost;
}

-- whether an entry is above 2^63 - 1 in absolute value
abbrev pub is_wide : ℤ → Bool
is_wide z = nat_lt (2 ^ 63 - 1) (unsigned_abs z)

-- the first wide entry of a tableau, row by row, the cost row last
abbrev pub first_wide : Tableau → Option ℤ
first_wide t = find is_wide (flat_map (λ row. row) t.rows ++ t.cost)
