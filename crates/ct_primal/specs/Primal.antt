-- Primals of Delsarte's linear program (Delsarte 1973; MacWilliams and Sloane, chapter 17, section 4): numbers that meet the inequalities of a distance distribution.
use Rattle.std.specs.Prelude.{◌≡◌, ℕ, suc, ◌/◌, ◌%◌, ◌<◌, ◌≤◌, min, true, ◌&&◌, nat_le, if◌then◌else◌, Bool, IsTrue, List, ℤ, pos, ◌+ℤ◌, ◌*ℤ◌, ◌≤ℤ◌, int_lt, All, AllPairs, Option, Some, None}
use Rattle.ct_words.specs.declared.limits.TheConstants.{MAX_BOUND}
use Rattle.ct_words.specs.Counting.Sums.{total}
use Rattle.ct_words.specs.Entry.{IsEntry}
use Rattle.ct_words.specs.Pairs.{first_of}
use Rattle.ct_duals.specs.Dual.{degree_of, is_in_range, IsMarkOf}
use Rattle.ct_duals.specs.Check.{first_below}
use Rattle.ct_duals.specs.Bound.{natural}
use Rattle.ct_words.specs.declared.entry.Entry.{Entry}
use Rattle.ct_primal.specs.declared.primal_fault.PrimalFault.{PrimalFault}
use Rattle.ct_primal.specs.declared.primal_fault.PrimalFault.TheVariants.{Scale, Below}

-- a primal as callers see it: its entry, whether it speaks of even distances alone, its scale q, and indices i with a_i
pub record PrimalValue : Type 0 where
  pub entry : Entry
  pub even : Bool
  pub q : ℤ
  pub a : List (ℕ × ℤ)

-- the form of a primal: it is of an entry of the table; a names indices of the range in ascending order, each with a number of at least 0; it speaks of even distances alone only where a dual may
pub record IsPrimal (p : PrimalValue) : Type 0 where
  pub entry : IsEntry p.entry
  pub even_distance : p.even ≡ true → p.entry.d % 2 ≡ 0
  pub weighted : IsMarkOf p.entry.w p.even
  pub ascending : AllPairs (λ u v. u.0 < v.0) p.a
  pub numbers : All (λ u. IsTrue (is_in_range p.entry p.even u.0) × (pos 0 ≤ℤ u.1)) p.a

-- q and the sum of the a_i
abbrev pub whole : PrimalValue → ℤ
whole p = p.q +ℤ total (λ u. u.1) p.a

-- the transformed number of k: q times the number of the scheme at k and 0, and the sum of a_i times that at k and i
abbrev pub transformed : (ℕ → ℕ → ℤ) → PrimalValue → ℕ → ℤ
transformed number p k = (p.q *ℤ number k 0) +ℤ total (λ u. u.1 *ℤ number k u.0) p.a

-- a primal is sound: its scale is at least 1, and no transformed number from k = 1 on is below 0
pub record IsSound (number : ℕ → ℕ → ℤ) (p : PrimalValue) : Type 0 where
  pub scale : pos 1 ≤ℤ p.q
  pub rows : (k : ℕ) → 1 ≤ k → k ≤ degree_of p.entry → pos 0 ≤ℤ transformed number p k

-- the scale is not above 0
abbrev pub scale_fault : PrimalValue → Option PrimalFault
scale_fault p = if int_lt p.q (pos 1) then Some Scale else None

-- k is at least 1, and its transformed number below 0
abbrev pub row_fault : (ℕ → ℕ → ℤ) → PrimalValue → ℕ → Option PrimalFault
row_fault number p k = if nat_le 1 k && int_lt (transformed number p k) (pos 0) then Some (Below k (transformed number p k)) else None

-- the first reason why the primal is not sound: scale, below, in this order; none where it is
unfoldable pub primal_fault : (ℕ → ℕ → ℤ) → PrimalValue → Option PrimalFault
primal_fault number p = first_of (scale_fault p) (first_below (row_fault number p) (suc (degree_of p.entry)))

-- its value: the least of MAX_BOUND and ⌊(q + the sum of the a_i)/q⌋
unfoldable pub primal_value : PrimalValue → ℕ
primal_value p = min MAX_BOUND (natural (whole p) / natural p.q)
