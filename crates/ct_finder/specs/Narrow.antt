-- Rows whose entries are at most 2^63 - 1 in absolute value.
use Rattle.std.specs.Prelude.{◌≡◌, false, List, All, ℤ}
use Rattle.ct_finder.specs.Pivot.{is_wide}

-- no entry of the row is wide
abbrev pub AreNarrow : List ℤ → Type 0
AreNarrow row = All (λ z. is_wide z ≡ false) row
