-- Runs and scales, computed with Euclid's algorithm.
use Rattle.std.proofs.Common.{◌≡◌, ℕ, zero, suc, ◌*◌, ◌/◌, ◌==◌, List, [], ◌∷◌, map, set, zip, get_or, Some, None, refl, ap, ◌∙◌}
use Rattle.std.specs.Prelude.{if◌then◌else◌, ℤ, pos, ◌*ℤ◌, ◌-ℤ◌, int_div}
use Rattle.ct_finder.specs.Column.{Column, Tableau}
use Rattle.ct_finder.specs.Divisor.{gcd, gcd_of}
use Rattle.ct_finder.specs.Pivot.{at, entering, pivot_row, first_wide}
use Rattle.ct_finder.specs.Run.{End, run}
use Rattle.ct_finder.specs.Run.End.{Least, Turns, Wide}
use Rattle.ct_finder.specs.RunPrimal.{basic_entry, next_scale, scales}
use Rattle.ct_finder.proofs.Divisors.{euclid_of, euclid_row, gcd_of-euclid, gcd-euclid}

-- a row once the pivot row has entered, with a function that gives its divisor
abbrev pub row_by : (List ℤ → ℕ) → ℕ → List ℤ → List ℤ → List ℤ
row_by f e pivot row = reduced_by (map (λ v. (at pivot e *ℤ v.0) -ℤ (at row e *ℤ v.1)) (zip row pivot))
  where
    reduced_by : List ℤ → List ℤ
    reduced_by xs = map (λ z. int_div z (pos (if f xs == 0 then 1 else f xs))) xs

-- the tableau after a pivot
abbrev pub pivoted_by : (List ℤ → ℕ) → ℕ → ℕ → Tableau → Tableau
pivoted_by f e i t = record {
  rows = set (map (row_by f e (get_or t.rows i [])) t.rows) i (get_or t.rows i []);
  basics = set t.basics i e;
  cost = row_by f e (get_or t.rows i []) t.cost;
}

-- the run, one pivot and what follows
abbrev pub step_by : (List ℤ → ℕ) → (Tableau → End) → List Column → Tableau → End
step_by f next cs t = elim (entering cs t.cost) [
  | None ↦ Least t
  | Some e ↦ elim (pivot_row e t) [
    | None ↦ next t
    | Some i ↦ elim (first_wide (pivoted_by f e i t)) [ None ↦ next (pivoted_by f e i t) | Some x ↦ Wide x ]
  ]
]

abbrev pub run_by : (List ℤ → ℕ) → List Column → ℕ → Tableau → End
run_by f cs zero t = elim (entering cs t.cost) [ None ↦ Least t | Some e ↦ Turns ]
run_by f cs (suc n) t = step_by f (run_by f cs n) cs t

run-by : (cs : List Column) (n : ℕ) (t : Tableau) → run cs n t ≡ run_by gcd_of cs n t
run-by cs zero t = refl
run-by cs (suc n) t = ap (λ (next : Tableau → End). step_by gcd_of next cs t) (λ i u. run-by cs n u i)

pub run-euclid : (cs : List Column) (n : ℕ) (t : Tableau) → run cs n t ≡ run_by (euclid_row 0) cs n t
run-euclid cs n t = run-by cs n t ∙ ap (λ (f : List ℤ → ℕ). run_by f cs n t) (λ i row. gcd_of-euclid row i)

-- the scales of a primal, with a function that gives the divisor
abbrev pub scales_by : (ℕ → ℕ → ℕ) → ℕ → List (List ℤ × ℕ) → List ℕ
scales_by f q [] = []
scales_by f q (l ∷ ls) = q / f q (basic_entry l) * basic_entry l ∷ scales_by f (q / f q (basic_entry l) * basic_entry l) ls

scales-by : (q : ℕ) (ls : List (List ℤ × ℕ)) → scales q ls ≡ scales_by gcd q ls
scales-by q [] = refl
scales-by q (l ∷ ls) = ap (λ qs. next_scale q l ∷ qs) (scales-by (next_scale q l) ls)

pub scales-euclid : (q : ℕ) (ls : List (List ℤ × ℕ)) → scales q ls ≡ scales_by euclid_of q ls
scales-euclid q ls = scales-by q ls ∙ ap (λ (f : ℕ → ℕ → ℕ). scales_by f q ls) (λ i a b. gcd-euclid a b i)
