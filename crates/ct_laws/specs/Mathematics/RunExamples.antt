-- Runs whose ends are known.
use Rattle.std.specs.Prelude.{ℕ, ◌+◌, ◌-◌, ◌^◌, false, List, [], ◌∷◌, map, ℤ, pos, negsuc}
use Rattle.ct_words.specs.Entry.{unrestricted, constant_weight}
use Rattle.ct_duals.specs.declared.dual.Dual.{Dual}
use Rattle.ct_words.specs.Numbers.{numbers_of}
use Rattle.ct_finder.specs.Column.{Tableau, range_of}
use Rattle.ct_finder.specs.Run.{End, run_of, run_dual}
use Rattle.ct_finder.specs.RunPrimal.{run_primal}
use Rattle.ct_primal.specs.Primal.{PrimalValue}

-- the run for A(8,4,4), with at most so many pivots, the tableau that it ends with, its dual and its primal
abbrev pub run_eight_four_four : ℕ → End
run_eight_four_four pivots = run_of (numbers_of (constant_weight 8 4 4)) (constant_weight 8 4 4) false pivots

-- the tableau that it ends with
abbrev pub last_eight_four_four : Tableau
last_eight_four_four = record {
  rows =
      (pos 0 ∷ pos 0 ∷ pos 8 ∷ pos 16 ∷ pos 1 ∷ pos 0 ∷ pos 0 ∷ pos 0 ∷ pos 16 ∷ [])
      ∷ (pos 0 ∷ pos 24 ∷ pos 54 ∷ pos 0 ∷ pos 9 ∷ pos 2 ∷ pos 0 ∷ pos 0 ∷ pos 288 ∷ [])
      ∷ (pos 0 ∷ pos 0 ∷ negsuc 59 ∷ pos 0 ∷ negsuc 5 ∷ pos 0 ∷ pos 1 ∷ pos 0 ∷ pos 0 ∷ [])
      ∷ (pos 0 ∷ pos 0 ∷ pos 81 ∷ pos 0 ∷ pos 9 ∷ pos 1 ∷ pos 0 ∷ pos 3 ∷ pos 288 ∷ [])
      ∷ [];
  basics = 3 ∷ 1 ∷ 6 ∷ 7 ∷ [];
  cost = pos 48 ∷ pos 0 ∷ pos 84 ∷ pos 0 ∷ pos 21 ∷ pos 4 ∷ pos 0 ∷ pos 0 ∷ pos 624 ∷ [];
}

-- the dual of its cost row
abbrev pub dual_eight_four_four : Dual
dual_eight_four_four = run_dual (constant_weight 8 4 4) false last_eight_four_four.cost

-- and its primal
abbrev pub primal_eight_four_four : PrimalValue
primal_eight_four_four = run_primal (constant_weight 8 4 4) false (range_of (constant_weight 8 4 4) false) last_eight_four_four

-- the same for A(6,3)
abbrev pub run_six_three : ℕ → End
run_six_three pivots = run_of (numbers_of (unrestricted 6 3)) (unrestricted 6 3) false pivots

-- the tableau that it ends with
abbrev pub last_six_three : Tableau
last_six_three = record {
  rows =
      (pos 0 ∷ pos 0 ∷ pos 2 ∷ pos 4 ∷ pos 6 ∷ pos 1 ∷ pos 0 ∷ pos 0 ∷ pos 0 ∷ pos 0 ∷ pos 0 ∷ pos 6 ∷ [])
      ∷ (pos 0 ∷ pos 0 ∷ pos 0 ∷ negsuc 15 ∷ negsuc 23 ∷ negsuc 1 ∷ pos 1 ∷ pos 0 ∷ pos 0 ∷ pos 0 ∷ negsuc 2 ∷ pos 0 ∷ [])
      ∷ (pos 0 ∷ pos 0 ∷ pos 0 ∷ pos 8 ∷ pos 32 ∷ pos 2 ∷ pos 0 ∷ pos 1 ∷ pos 0 ∷ pos 0 ∷ pos 0 ∷ pos 32 ∷ [])
      ∷ (pos 0 ∷ pos 0 ∷ pos 0 ∷ pos 12 ∷ negsuc 11 ∷ pos 1 ∷ pos 0 ∷ pos 0 ∷ pos 1 ∷ pos 0 ∷ pos 3 ∷ pos 24 ∷ [])
      ∷ (pos 0 ∷ pos 0 ∷ pos 0 ∷ negsuc 7 ∷ pos 0 ∷ negsuc 0 ∷ pos 0 ∷ pos 0 ∷ pos 0 ∷ pos 1 ∷ pos 0 ∷ pos 0 ∷ [])
      ∷ (pos 0 ∷ pos 2 ∷ pos 0 ∷ pos 6 ∷ pos 4 ∷ pos 1 ∷ pos 0 ∷ pos 0 ∷ pos 0 ∷ pos 0 ∷ pos 2 ∷ pos 8 ∷ [])
      ∷ [];
  basics = 2 ∷ 6 ∷ 7 ∷ 8 ∷ 9 ∷ 1 ∷ [];
  cost = pos 1 ∷ pos 0 ∷ pos 0 ∷ pos 4 ∷ pos 4 ∷ pos 1 ∷ pos 0 ∷ pos 0 ∷ pos 0 ∷ pos 0 ∷ pos 1 ∷ pos 7 ∷ [];
}

-- the dual of its cost row
abbrev pub dual_six_three : Dual
dual_six_three = run_dual (unrestricted 6 3) false last_six_three.cost

-- and its primal
abbrev pub primal_six_three : PrimalValue
primal_six_three = run_primal (unrestricted 6 3) false (range_of (unrestricted 6 3) false) last_six_three

-- the same for A(8,4), at all distances from 4 on; in four of its pivots several rows have the least fraction
abbrev pub run_eight_four : ℕ → End
run_eight_four pivots = run_of (numbers_of (unrestricted 8 4)) (unrestricted 8 4) false pivots

-- the tableau that it ends with
abbrev pub last_eight_four : Tableau
last_eight_four = record {
  rows =
      (pos 0 ∷ pos 0 ∷ pos 2 ∷ pos 4 ∷ pos 6 ∷ pos 8 ∷ pos 1 ∷ pos 0 ∷ pos 0 ∷ pos 0 ∷ pos 0 ∷ pos 0 ∷ pos 0 ∷ pos 0 ∷ pos 8 ∷ [])
      ∷ (pos 0 ∷ pos 8 ∷ pos 18 ∷ pos 20 ∷ pos 14 ∷ pos 0 ∷ pos 7 ∷ pos 2 ∷ pos 0 ∷ pos 0 ∷ pos 0 ∷ pos 0 ∷ pos 0 ∷ pos 0 ∷ pos 112 ∷ [])
      ∷ (pos 0 ∷ pos 0 ∷ negsuc 19 ∷ negsuc 31 ∷ negsuc 27 ∷ pos 0 ∷ negsuc 6 ∷ pos 0 ∷ pos 1 ∷ pos 0 ∷ pos 0 ∷ pos 0 ∷ pos 0 ∷ pos 0 ∷ pos 0 ∷ [])
      ∷ (pos 0 ∷ pos 0 ∷ pos 62 ∷ pos 120 ∷ pos 126 ∷ pos 0 ∷ pos 28 ∷ pos 3 ∷ pos 0 ∷ pos 2 ∷ pos 0 ∷ pos 0 ∷ pos 0 ∷ pos 0 ∷ pos 448 ∷ [])
      ∷ (pos 0 ∷ pos 0 ∷ negsuc 7 ∷ negsuc 31 ∷ negsuc 55 ∷ pos 0 ∷ negsuc 6 ∷ pos 0 ∷ pos 0 ∷ pos 0 ∷ pos 1 ∷ pos 0 ∷ pos 0 ∷ pos 0 ∷ pos 0 ∷ [])
      ∷ (pos 0 ∷ pos 0 ∷ negsuc 3 ∷ pos 0 ∷ pos 28 ∷ pos 0 ∷ pos 0 ∷ negsuc 0 ∷ pos 0 ∷ pos 0 ∷ pos 0 ∷ pos 1 ∷ pos 0 ∷ pos 0 ∷ pos 0 ∷ [])
      ∷ (pos 0 ∷ pos 0 ∷ negsuc 3 ∷ pos 0 ∷ negsuc 11 ∷ pos 0 ∷ negsuc 0 ∷ pos 0 ∷ pos 0 ∷ pos 0 ∷ pos 0 ∷ pos 0 ∷ pos 1 ∷ pos 0 ∷ pos 0 ∷ [])
      ∷ (pos 0 ∷ pos 0 ∷ pos 14 ∷ pos 8 ∷ pos 14 ∷ pos 0 ∷ pos 4 ∷ pos 1 ∷ pos 0 ∷ pos 0 ∷ pos 0 ∷ pos 0 ∷ pos 0 ∷ pos 4 ∷ pos 64 ∷ [])
      ∷ [];
  basics = 5 ∷ 1 ∷ 8 ∷ 9 ∷ 10 ∷ 11 ∷ 12 ∷ 13 ∷ [];
  cost = pos 4 ∷ pos 0 ∷ pos 6 ∷ pos 8 ∷ pos 6 ∷ pos 0 ∷ pos 4 ∷ pos 1 ∷ pos 0 ∷ pos 0 ∷ pos 0 ∷ pos 0 ∷ pos 0 ∷ pos 0 ∷ pos 60 ∷ [];
}

-- the dual of its cost row
abbrev pub dual_eight_four : Dual
dual_eight_four = run_dual (unrestricted 8 4) false last_eight_four.cost

-- and its primal
abbrev pub primal_eight_four : PrimalValue
primal_eight_four = run_primal (unrestricted 8 4) false (range_of (unrestricted 8 4) false) last_eight_four

-- three rows and a cost row: 2^63 - 1 and -(2^63 - 1) are not wide; -2^63 and 2^63 in the second row, 2^63 + 1 in the third, 2^63 in the cost row are
abbrev pub wide_tableau : Tableau
wide_tableau = record {
  rows =
      (pos (2 ^ 63 - 1) ∷ pos 0 ∷ pos 0 ∷ [])
      ∷ (negsuc (2 ^ 63 - 2) ∷ negsuc (2 ^ 63 - 1) ∷ pos (2 ^ 63) ∷ [])
      ∷ (pos (2 ^ 63 + 1) ∷ pos 0 ∷ pos 0 ∷ [])
      ∷ [];
  basics = 0 ∷ 1 ∷ 2 ∷ [];
  cost = pos (2 ^ 63) ∷ pos 1 ∷ pos 0 ∷ [];
}

-- the first row alone, and the same cost row
abbrev pub wide_cost_tableau : Tableau
wide_cost_tableau = record { rows = (pos (2 ^ 63 - 1) ∷ pos 0 ∷ pos 0 ∷ []) ∷ []; basics = 0 ∷ []; cost = pos (2 ^ 63) ∷ pos 1 ∷ pos 0 ∷ [] }

-- the same with a cost row that has no wide entry
abbrev pub narrow_tableau : Tableau
narrow_tableau = record { rows = (pos (2 ^ 63 - 1) ∷ pos 0 ∷ pos 0 ∷ []) ∷ []; basics = 0 ∷ []; cost = pos 0 ∷ pos 1 ∷ pos 0 ∷ [] }

-- a row with 3 and this constant beside its basic column s_1, and a cost row
abbrev pub one_row : ℕ → List ℤ → Tableau
one_row constant cost = record { rows = (pos 0 ∷ pos 3 ∷ pos constant ∷ []) ∷ []; basics = 1 ∷ []; cost = cost }

-- rows whose basic column is the first a, with different primes as entries there, and as many basic columns
abbrev pub prime_rows : List ℕ → Tableau
prime_rows primes = record {
  rows = map (λ p. pos 0 ∷ pos p ∷ pos 1 ∷ []) primes;
  basics = map (λ p. 1) primes;
  cost = pos 1 ∷ pos 0 ∷ pos 1 ∷ [];
}

-- 10 primes, of which the product of the first 10 is above 2^63 - 1
abbrev pub wide_scale_tableau : Tableau
wide_scale_tableau = prime_rows (101 ∷ 103 ∷ 107 ∷ 109 ∷ 113 ∷ 127 ∷ 131 ∷ 137 ∷ 139 ∷ 149 ∷ [])

-- two rows whose basic columns are a's, with entries 3 and 1 and the constant 2^62: the scale is 3; one whose basic column is an s comes first, and does not count
abbrev pub wide_number_tableau : Tableau
wide_number_tableau = record {
  rows = (pos 0 ∷ pos 0 ∷ pos 0 ∷ pos 5 ∷ pos 1 ∷ []) ∷ (pos 0 ∷ pos 0 ∷ pos 3 ∷ pos 0 ∷ pos (2 ^ 62) ∷ []) ∷ (pos 0 ∷ pos 1 ∷ pos 0 ∷ pos 0 ∷ pos (2 ^ 62) ∷ []) ∷ [];
  basics = 3 ∷ 2 ∷ 1 ∷ [];
  cost = pos 1 ∷ pos 0 ∷ pos 0 ∷ pos 0 ∷ pos 1 ∷ [];
}
