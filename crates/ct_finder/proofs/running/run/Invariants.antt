-- What is left of the run ends as the whole.
use Rattle.std.proofs.Common.{◌≡◌, ℕ, ◌+◌, List, length}
use Rattle.ct_finder.specs.Column.{columns}
use Rattle.ct_finder.specs.Run.{run}
use Rattle.ct_finder.specs.Ready.{seen, IsReady}
use Rattle.ct_finder.proofs.running.run.Given as goal

abbrev pub invariant-loop-made : goal.invariant-loop-made
invariant-loop-made l =
    IsReady l.tableau
    × (length l.tableau.cost ≡ length l.initial.tableau.cost)
    × ((range : List ℕ) (degree n : ℕ) → length l.initial.tableau.cost ≡ length (columns range degree) → l.made + n ≡ l.pivots
    → run (columns range degree) n (seen l.tableau) ≡ run (columns range degree) l.pivots (seen l.initial.tableau))
