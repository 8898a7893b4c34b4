-- The primal of a run that ends as least: the numbers of the a's over a common scale, read off the rows whose basic column is an a.
use Rattle.std.specs.Prelude.{ℕ, ◌*◌, ◌/◌, ◌==◌, Bool, ◌&&◌, nat_le, if◌then◌else◌, List, [], ◌∷◌, ◌++◌, map, filter, find, zip, length, fold, Option, ℤ, pos, int_lt}
use Rattle.std.specs.List.{range_with_len}
use Rattle.ct_words.specs.declared.entry.Entry.{Entry}
use Rattle.ct_duals.specs.Bound.{natural}
use Rattle.ct_primal.specs.Primal.{PrimalValue}
use Rattle.ct_finder.specs.Column.{Tableau}
use Rattle.ct_finder.specs.Divisor.{gcd}
use Rattle.ct_finder.specs.Pivot.{at, constant_of, is_wide}

-- β: the entry of a row at its basic column, which stands beside it
abbrev pub basic_entry : List ℤ × ℕ → ℕ
basic_entry l = natural (at l.0 l.1)

-- the rows whose basic column is an a, in order of k, each with its place: for so many indices the a's stand at the places from 1 on
abbrev pub lines_of_a : ℕ → Tableau → List (List ℤ × ℕ)
lines_of_a count t = filter (λ l. nat_le 1 l.1 && nat_le l.1 count) (zip t.rows t.basics)

-- the scale that a row makes of the one before: (q/g) · β, with the greatest common divisor g of q and β, which is the least common multiple of both
abbrev pub next_scale : ℕ → List ℤ × ℕ → ℕ
next_scale q l = q / gcd q (basic_entry l) * basic_entry l

-- the scales after each of the rows
abbrev pub scales : ℕ → List (List ℤ × ℕ) → List ℕ
scales q [] = []
scales q (l ∷ ls) = next_scale q l ∷ scales (next_scale q l) ls

-- the number of a row over the scale: κ · (q/β), with the constant κ of the row
abbrev pub scaled : ℕ → List ℤ × ℕ → ℕ
scaled q l = natural (constant_of l.0) * (q / basic_entry l)

-- the scale of the primal
abbrev pub run_scale : ℕ → Tableau → ℕ
run_scale count t = fold next_scale 1 (lines_of_a count t)

-- the numbers in the order in which they are made: the scale after each row, then the number of each
abbrev pub numbers_made : ℕ → Tableau → List ℕ
numbers_made count t = scales 1 (lines_of_a count t) ++ map (scaled (run_scale count t)) (lines_of_a count t)

-- the first of them that is above 2^63 - 1
abbrev pub wide_number : ℕ → Tableau → Option ℤ
wide_number count t = find is_wide (map pos (numbers_made count t))

-- the number of the column at a place: that of the row whose basic column it is, 0 where there is none
abbrev pub number_at_place : ℕ → List (List ℤ × ℕ) → ℕ → ℕ
number_at_place q [] place = 0
number_at_place q (l ∷ ls) place = if l.1 == place then scaled q l else number_at_place q ls place

-- the primal of a tableau over a range of indices: those with a number above 0
abbrev pub run_primal : Entry → Bool → List ℕ → Tableau → PrimalValue
run_primal e even range t = record {
  entry = e;
  even = even;
  q = pos (run_scale (length range) t);
  a = filter
      (λ u. int_lt (pos 0) u.1)
      (map (λ v. (v.0, pos (number_at_place (run_scale (length range) t) (zip t.rows t.basics) v.1))) (zip range (range_with_len 1 (length range))));
}
