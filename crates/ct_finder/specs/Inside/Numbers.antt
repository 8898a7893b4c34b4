-- The rows and the numbers of a run's primal.
use Rattle.std.specs.Prelude.{ℕ, Bool, ◌&&◌, nat_le, List, map, zip, length, ℤ, pos}
use Rattle.std.specs.List.{range_with_len}
use Rattle.ct_duals.specs.Bound.{natural}
use Rattle.ct_finder.specs.Column.{Tableau}
use Rattle.ct_finder.specs.Pivot.{constant_of}
use Rattle.ct_finder.specs.RunPrimal.{run_scale, number_at_place}

-- κ: the constant of a row
abbrev pub basic_constant : List ℤ × ℕ → ℕ
basic_constant l = natural (constant_of l.0)

-- whether the basic column of a row is one of so many a's
abbrev pub is_of_a : ℕ → List ℤ × ℕ → Bool
is_of_a count l = nat_le 1 l.1 && nat_le l.1 count

-- each index with the number of its a
abbrev pub numbers_of_range : List ℕ → Tableau → List (ℕ × ℤ)
numbers_of_range range t =
    map (λ v. (v.0, pos (number_at_place (run_scale (length range) t) (zip t.rows t.basics) v.1))) (zip range (range_with_len 1 (length range)))
