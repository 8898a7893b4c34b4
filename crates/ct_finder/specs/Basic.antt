-- What the rows of a run keep beside: whatever solves them solves the opening rows, and each gives its basic column a number of at least 0 (Dantzig 1963, chapter 5).
use Rattle.std.specs.Prelude.{◌≡◌, ◌≢◌, ℕ, ◌+◌, ◌<◌, ◌≤◌, List, [], length, get_or, ℤ, pos, ◌*ℤ◌, ◌≤ℤ◌}
use Rattle.ct_words.specs.Counting.Sums.{total}
use Rattle.ct_finder.specs.Column.{Tableau}
use Rattle.ct_finder.specs.Pivot.{at, constant_of}

-- what a row gives for numbers at places: the sum of its entries there, each times the number
abbrev pub worth : List (ℕ × ℤ) → List ℤ → ℤ
worth x row = total (λ u. at row u.0 *ℤ u.1) x

-- the row of a number, counted from 0
abbrev pub row_at : Tableau → ℕ → List ℤ
row_at t k = get_or t.rows k []

-- the place of its basic column
abbrev pub basic_at : Tableau → ℕ → ℕ
basic_at t k = get_or t.basics k 0

-- numbers at places solve a tableau: each row, and the cost row, gives 0 for them
pub record Solves (x : List (ℕ × ℤ)) (t : Tableau) : Type 0 where
  pub rows : (k : ℕ) → k < length t.rows → worth x (row_at t k) ≡ pos 0
  pub cost : worth x t.cost ≡ pos 0

-- each row has a constant of at least 0 and a positive entry at its basic column, an a or an s, and every other row, the cost row too, has 0 there
pub record AreBasic (width : ℕ) (t : Tableau) : Type 0 where
  pub count : length t.basics ≡ length t.rows
  pub choices : (k : ℕ) → k < length t.rows → (1 ≤ basic_at t k) × (basic_at t k + 1 < width)
  pub constants : (k : ℕ) → k < length t.rows → pos 0 ≤ℤ constant_of (row_at t k)
  pub own : (k : ℕ) → k < length t.rows → pos 1 ≤ℤ at (row_at t k) (basic_at t k)
  pub others : (j k : ℕ) → j < length t.rows → k < length t.rows → j ≢ k → at (row_at t j) (basic_at t k) ≡ pos 0
  pub cost : (k : ℕ) → k < length t.rows → at t.cost (basic_at t k) ≡ pos 0
