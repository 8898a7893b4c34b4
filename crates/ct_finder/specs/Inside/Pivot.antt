-- The best of the first candidates for the pivot row.
use Rattle.std.specs.Prelude.{ℕ, Bool, not, ◌&&◌, List, [], get_or, map, zip, Option, Some, None, ℤ, ◌*ℤ◌, ◌-ℤ◌}
use Rattle.std.specs.List.{list_all}
use Rattle.ct_finder.specs.Pivot.{is_candidate, comes_before}

-- p · R - r · P
abbrev pub crossed : ℤ → ℤ → List ℤ → List ℤ → List ℤ
crossed p r pivot row = map (λ v. (p *ℤ v.0) -ℤ (r *ℤ v.1)) (zip row pivot)

-- no candidate comes before the row
abbrev pub is_unbeaten : ℕ → List (List ℤ × ℕ) → List ℤ × ℕ → Bool
is_unbeaten e lines l = list_all (λ m. not (is_candidate e m && comes_before e m l)) lines

-- the row at a place, with its basic column; an empty one where there is none
abbrev pub line_at : List (List ℤ × ℕ) → ℕ → List ℤ × ℕ
line_at lines i = get_or lines i ([], 0)

-- whether the line at the place i is a candidate that comes before the best so far
abbrev pub is_better : ℕ → List (List ℤ × ℕ) → Option ℕ → ℕ → Bool
is_better e lines None i = is_candidate e (line_at lines i)
is_better e lines (Some b) i = is_candidate e (line_at lines i) && comes_before e (line_at lines i) (line_at lines b)
