use Rattle.std.proofs.Common.{◌≡◌, ℕ, ◌<◌, length, get_or}
use Rattle.ct_codes.specs.Inside.Rows.{row_entry}
use Rattle.ct_codes.proofs.rows.write_rows.Given as goal

-- the numbers at the places so far are written
abbrev pub invariant-loop-place : goal.invariant-loop-place
invariant-loop-place l = (length l.rows ≡ 8192) × ((k : ℕ) → k < l.place → get_or l.rows k 0 ≡ row_entry l.block k)
