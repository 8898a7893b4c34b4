-- The numbers of the rows, and the multipliers that a cost row gives.
use Rattle.std.specs.Prelude.{ℕ, List, ◌∷◌, map, ℤ}
use Rattle.std.specs.List.{range_with_len}
use Rattle.ct_finder.specs.Column.{Column}
use Rattle.ct_finder.specs.Column.Column.{Z, S}
use Rattle.ct_finder.specs.Run.{coefficient}

-- 1, 2, .., degree
abbrev pub rows_to : ℕ → List ℕ
rows_to degree = range_with_len 1 degree

-- the multipliers of a run's dual: the cost row's entry at z, and those at s_1, s_2 and so on
abbrev pub multipliers_of : List Column → ℕ → List ℤ → List ℤ
multipliers_of cs degree cost = coefficient cs cost Z ∷ map (λ k. coefficient cs cost (S k)) (range_with_len 1 degree)
