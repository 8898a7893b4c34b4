-- A run by its next step.
use Rattle.std.proofs.Common.{◌≡◌, ℕ, suc, List, refl, ap, ◌∙◌}
use Rattle.std.specs.Prelude.{ℤ, Option, Some, None}
use Rattle.ct_finder.specs.Column.{Column, Tableau}
use Rattle.ct_finder.specs.Pivot.{entering, pivot_row, pivoted, first_wide}
use Rattle.ct_finder.specs.Run.{End, run}
use Rattle.ct_finder.specs.Run.End.{Least, Turns, Wide}
use Rattle.ct_finder.specs.Inside.Step.{Step, unless_wide, pivoted_at, step_at, step}
use Rattle.ct_finder.specs.Inside.Step.Step.{ended, goes}

-- what the run gives from a step on
abbrev pub run_on : List Column → ℕ → Step → End
run_on cs n (ended e) = e
run_on cs n (goes next) = run cs n next

pub run-step : (cs : List Column) (n : ℕ) (t : Tableau) → run cs (suc n) t ≡ run_on cs n (step cs t)
run-step cs n t = by_column (entering cs t.cost)
  where
    by_wide : (o : Option ℤ) (u : Tableau) → elim o [ None ↦ run cs n u | Some x ↦ Wide x ] ≡ run_on cs n (unless_wide o u)
    by_wide None u = refl
    by_wide (Some x) u = refl

    by_row : (e : ℕ) (o : Option ℕ)
        → elim o [ None ↦ run cs n t | Some i ↦ elim (first_wide (pivoted e i t)) [ None ↦ run cs n (pivoted e i t) | Some x ↦ Wide x ] ]
        ≡ run_on cs n (pivoted_at e o t)
    by_row e None = refl
    by_row e (Some i) = by_wide (first_wide (pivoted e i t)) (pivoted e i t)

    by_column : (o : Option ℕ)
        → elim o [
          | None ↦ Least t
          | Some e ↦ elim (pivot_row e t) [
            | None ↦ run cs n t
            | Some i ↦ elim (first_wide (pivoted e i t)) [ None ↦ run cs n (pivoted e i t) | Some x ↦ Wide x ]
          ]
        ]
        ≡ run_on cs n (step_at o t)
    by_column None = refl
    by_column (Some e) = by_row e (pivot_row e t)

pub run-ended : (cs : List Column) (n : ℕ) (t : Tableau) (e : End) → step cs t ≡ ended e → run cs (suc n) t ≡ e
run-ended cs n t e h = run-step cs n t ∙ ap (run_on cs n) h

pub run-goes : (cs : List Column) (n : ℕ) (t next : Tableau) → step cs t ≡ goes next → run cs (suc n) t ≡ run cs n next
run-goes cs n t next h = run-step cs n t ∙ ap (run_on cs n) h

pub run-least : (cs : List Column) (t : Tableau) → entering cs t.cost ≡ None → run cs 0 t ≡ Least t
run-least cs t h = ap (λ (o : Option ℕ). elim o [ None ↦ Least t | Some e ↦ Turns ]) h

pub run-pivots : (cs : List Column) (t : Tableau) (e : ℕ) → entering cs t.cost ≡ Some e → run cs 0 t ≡ Turns
run-pivots cs t e h = ap (λ (o : Option ℕ). elim o [ None ↦ Least t | Some e ↦ Turns ]) h
