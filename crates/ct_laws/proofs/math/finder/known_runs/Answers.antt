use Rattle.std.proofs.Common.{◌≡◌, ℕ, false, refl}
use Rattle.ct_words.specs.declared.entry.Entry.{Entry}
use Rattle.ct_words.specs.Entry.{unrestricted, constant_weight}
use Rattle.ct_words.specs.Numbers.{krawtchouk, johnson, numbers_of}
use Rattle.ct_duals.specs.Dual.{degree_of}
use Rattle.ct_finder.specs.Column.{columns, opening, range_of}
use Rattle.ct_finder.specs.Divisor.{gcd_of}
use Rattle.ct_finder.specs.Run.{run_of}
use Rattle.ct_finder.proofs.Divisors.{euclid_row}
use Rattle.ct_finder.proofs.EuclidRuns.{run_by, run-euclid}
use Rattle.ct_duals.specs.Bound.{dual_bound}
use Rattle.ct_laws.proofs.math.finder.known_runs.Goals as goal

-- a run, computed with Euclid's algorithm
known : (e : Entry) (pivots : ℕ)
    → run_of (numbers_of e) e false pivots
    ≡ run_by (euclid_row 0) (columns (range_of e false) (degree_of e)) pivots (opening (numbers_of e) (range_of e false) (degree_of e))
known e pivots = run-euclid (columns (range_of e false) (degree_of e)) pivots (opening (numbers_of e) (range_of e false) (degree_of e))

pub returns-clause-weighted : goal.returns-clause-weighted
unfolding johnson
returns-clause-weighted c = known (constant_weight 8 4 4) 3

pub returns-clause-weighted_pivots : goal.returns-clause-weighted_pivots
unfolding johnson
returns-clause-weighted_pivots c = known (constant_weight 8 4 4) 2

pub returns-clause-weighted_bound : goal.returns-clause-weighted_bound
unfolding dual_bound
returns-clause-weighted_bound c = refl

pub returns-clause-plain : goal.returns-clause-plain
unfolding krawtchouk
returns-clause-plain c = known (unrestricted 6 3) 2

pub returns-clause-plain_bound : goal.returns-clause-plain_bound
unfolding dual_bound
returns-clause-plain_bound c = refl

pub returns-clause-tied : goal.returns-clause-tied
unfolding krawtchouk
returns-clause-tied c = known (unrestricted 8 4) 6

pub returns-clause-tied_pivots : goal.returns-clause-tied_pivots
unfolding krawtchouk
returns-clause-tied_pivots c = known (unrestricted 8 4) 5

pub returns-clause-tied_bound : goal.returns-clause-tied_bound
unfolding dual_bound
returns-clause-tied_bound c = refl

pub returns-clause-weighted_primal : goal.returns-clause-weighted_primal
unfolding gcd_of
returns-clause-weighted_primal c = refl

pub returns-clause-weighted_pairs : goal.returns-clause-weighted_pairs
unfolding gcd_of
returns-clause-weighted_pairs c = refl

pub returns-clause-plain_primal : goal.returns-clause-plain_primal
unfolding gcd_of
returns-clause-plain_primal c = refl

pub returns-clause-plain_pairs : goal.returns-clause-plain_pairs
unfolding gcd_of
returns-clause-plain_pairs c = refl

pub returns-clause-tied_primal : goal.returns-clause-tied_primal
unfolding gcd_of
returns-clause-tied_primal c = refl

pub returns-clause-tied_pairs : goal.returns-clause-tied_pairs
unfolding gcd_of
returns-clause-tied_pairs c = refl
