-- What is read off the tableau with which a run ends as least: its primal, or the first number of it that is too large.
use Rattle.ct_finder.specs.Inside.Numbers.{basic_constant}
use Rattle.std.specs.Prelude.{ℕ, ◌*◌, ◌/◌, Bool, ◌&&◌, nat_le, if◌then◌else◌, List, zip, map, length, find, ℤ, pos, Option, Some, None}
use Rattle.ct_words.specs.declared.entry.Entry.{Entry}
use Rattle.ct_primal.specs.Primal.{PrimalValue}
use Rattle.ct_finder.specs.Column.{Tableau}
use Rattle.ct_finder.specs.Divisor.{gcd}
use Rattle.ct_finder.specs.Pivot.{is_wide}
use Rattle.ct_finder.specs.RunPrimal.{basic_entry, lines_of_a, scales, scaled, wide_number, run_primal}
use Rattle.ct_finder.specs.declared.tableau.Tableau.{Tableau as TableauOfCode}
use Rattle.ct_finder.specs.declared.reading.Line.{Line}
use Rattle.ct_finder.specs.declared.reading.Reading.{Reading}
use Rattle.ct_finder.specs.declared.reading.Reading.TheVariants.{Primal, Wide}

-- the rows of a tableau with their basic columns
abbrev pub lines_seen : TableauOfCode → List (List ℤ × ℕ)
lines_seen t = zip t.rows.items t.basics.items

-- one of them as the code reads it
abbrev pub line_of : List ℤ × ℕ → Line
line_of l = record { place = l.1; entry = basic_entry l; constant = basic_constant l }

-- whether the basic column is one of so many a's
abbrev pub is_a : Line → ℕ → Bool
is_a l count = nat_le 1 l.place && nat_le l.place count

-- the scale after a row
abbrev pub scale_after : ℕ → Line → ℕ → ℕ
scale_after q l count = if is_a l count then q / gcd q l.entry * l.entry else q

-- the number of a row over a scale
abbrev pub number_over : ℕ → Line → ℕ
number_over q l = l.constant * (q / l.entry)

-- whether a number is above 2^63 - 1
abbrev pub is_large : ℕ → Bool
is_large n = is_wide (pos n)

-- the number, where it is above 2^63 - 1
abbrev pub large : ℕ → Option ℕ
large n = if is_large n then Some n else None

-- the number of such a row, where it is too large
abbrev pub large_after : ℕ → Line → ℕ → Option ℕ
large_after q l count = if is_a l count then large (number_over q l) else None

-- the first scale that is too large
abbrev pub large_scale : ℕ → Tableau → Option ℕ
large_scale count t = find is_large (scales 1 (lines_of_a count t))

-- the first number of a row over a scale that is too large
abbrev pub large_number : ℕ → ℕ → Tableau → Option ℕ
large_number q count t = find is_large (map (scaled q) (lines_of_a count t))

-- the first number that is too large, or, where there is none, the primal
abbrev pub reading_at : Option ℤ → PrimalValue → Reading
reading_at None p = Primal p
reading_at (Some x) p = Wide x

-- what is read off a tableau over a range of indices
abbrev pub reading_of : Entry → Bool → List ℕ → Tableau → Reading
reading_of e even range t = reading_at (wide_number (length range) t) (run_primal e even range t)
