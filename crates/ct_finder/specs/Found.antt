-- What the finder answers: a dual from the end of a run, its bound, and how the run stopped.
use Rattle.std.specs.Prelude.{◌≡◌, ℕ, ◌≤◌, ◌^◌, Bool, [], length, All, pos, ◌<ℤ◌, Option, Some, None}
use Rattle.ct_words.specs.declared.entry.Entry.{Entry}
use Rattle.ct_duals.specs.declared.dual.Dual.{Dual}
use Rattle.ct_duals.specs.Dual.{IsDual}
use Rattle.ct_duals.specs.Check.{dual_fault}
use Rattle.ct_duals.specs.Bound.{dual_bound}
use Rattle.ct_primal.specs.Primal.{PrimalValue, IsPrimal, primal_fault, primal_value}
use Rattle.ct_finder.specs.Column.{range_of}
use Rattle.ct_finder.specs.RunPrimal.{run_primal, wide_number}
use Rattle.ct_words.specs.Numbers.{numbers_of, combination}
use Rattle.ct_finder.specs.Run.{End, run_dual, ones_dual}
use Rattle.ct_finder.specs.Run.End.{Least as LeastEnd, Turns as TurnsEnd, Wide as WideEnd}
use Rattle.ct_finder.specs.declared.found.Stop.{Stop}
use Rattle.ct_finder.specs.declared.found.Stop.TheVariants.{Least, Turns, Wide}

-- the dual that the end of a run gives: the run's where it ends as least, else that of n + 1 ones where there is no weight, and none where there is one
abbrev pub dual_at_end : Entry → Bool → End → Option Dual
dual_at_end e even (LeastEnd t) = Some (run_dual e even t.cost)
dual_at_end e even end = elim e.w [ None ↦ Some (ones_dual e even) | Some w ↦ None ]

-- the bound of a dual that allows nothing
abbrev pub bound_without_allowances : Dual → ℕ
bound_without_allowances d = dual_bound d (combination (numbers_of d.entry) d.c 0) []

-- how the run stopped: as least, with its primal, where no number of this is too large; else after the pivots that were asked for, or with what would be wide
abbrev pub stop_of : Entry → Bool → ℕ → End → Stop
stop_of e even pivots (LeastEnd t) =
    elim (wide_number (length (range_of e even)) t) [ None ↦ Least (run_primal e even (range_of e even) t) | Some x ↦ Wide x ]
stop_of e even pivots TurnsEnd = Turns pivots
stop_of e even pivots (WideEnd x) = Wide x

-- a primal shows the bound of a dual to be a least one: it is of the entry and mark of the dual, is accepted, and has the bound as its value; its numbers are below 2^63
pub record IsShownBy (p : PrimalValue) (d : Dual) : Type 0 where
  pub entry : p.entry ≡ d.entry
  pub even : p.even ≡ d.even
  pub form : IsPrimal p
  pub accepted : primal_fault (numbers_of p.entry) p ≡ None
  pub value : primal_value p ≡ bound_without_allowances d
  pub scale : p.q <ℤ pos (2 ^ 63)
  pub numbers : All (λ u. u.1 <ℤ pos (2 ^ 63)) p.a

-- where the run stopped as least, its primal shows the bound
abbrev pub IsShown : Stop → Dual → Type 0
IsShown (Least p) d = IsShownBy p d
IsShown (Turns t) d = Unit {0}
IsShown (Wide x) d = Unit {0}

-- no dual of the same entry and mark that is accepted and allows nothing has a smaller bound
abbrev pub IsLeast : Dual → Type 0
IsLeast d =
    (other : Dual) → IsDual other → other.entry ≡ d.entry → other.even ≡ d.even → other.y ≡ [] → dual_fault (numbers_of other.entry) other ≡ None
    → bound_without_allowances d ≤ bound_without_allowances other
