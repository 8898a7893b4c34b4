-- The columns and the opening rows of the finder's run: the linear program whose solutions are duals (Delsarte 1973), as a table of whole numbers for the simplex method.
use Rattle.std.specs.Prelude.{ℕ, suc, Bool, true, false, ◌==◌, if◌then◌else◌, List, [], ◌∷◌, ◌++◌, map, filter, ℤ, pos, negsuc, neg_ℤ}
use Rattle.std.specs.List.{range_with_len, position_or_len}
use Rattle.ct_words.specs.declared.entry.Entry.{Entry}
use Rattle.ct_duals.specs.Dual.{degree_of, is_in_range}

-- a column: z, the a of an index, the s of a row, and the constants
pub data Column : Type 0 where
  Z : Column
  A : ℕ → Column
  S : ℕ → Column
  Constant : Column

-- whether two columns are the same
abbrev pub same_column : Column → Column → Bool
same_column Z Z = true
same_column (A i) (A j) = i == j
same_column (S k) (S l) = k == l
same_column Constant Constant = true
same_column c d = false

-- whether the column is an a or an s
abbrev pub is_choice : Column → Bool
is_choice Z = false
is_choice (A i) = true
is_choice (S k) = true
is_choice Constant = false

-- the indices that two words of a code of the entry may have, ascending; the even ones alone where `even` is set
abbrev pub range_of : Entry → Bool → List ℕ
range_of e even = filter (is_in_range e even) (range_with_len 0 (suc (degree_of e)))

-- the columns in order: z, an a for each index of the range, an s for each row, and the constants
abbrev pub columns : List ℕ → ℕ → List Column
columns range degree = Z ∷ (map A range ++ (map S (range_with_len 1 degree) ++ Constant ∷ []))

-- the place of a column
abbrev pub place_of_column : Column → List Column → ℕ
place_of_column c cs = position_or_len (λ x. same_column x c) cs

-- the opening row of k: -N(k,i) at each a_i, 1 at s_k, N(k,0) at the constant and 0 elsewhere
abbrev pub opening_entry : (ℕ → ℕ → ℤ) → ℕ → Column → ℤ
opening_entry number k Z = pos 0
opening_entry number k (A i) = neg_ℤ (number k i)
opening_entry number k (S j) = if j == k then pos 1 else pos 0
opening_entry number k Constant = number k 0

-- the opening cost row: 1 at z, -1 at each a_i and 0 elsewhere
abbrev pub cost_entry : Column → ℤ
cost_entry Z = pos 1
cost_entry (A i) = negsuc 0
cost_entry (S k) = pos 0
cost_entry Constant = pos 0

-- rows of whole numbers over the columns, the place of the basic column of each, and the cost row
pub record Tableau : Type 0 where
  pub rows : List (List ℤ)
  pub basics : List ℕ
  pub cost : List ℤ

-- the opening tableau: the rows of 1, .., degree, with s_k as the basic column of the row of k
abbrev pub opening : (ℕ → ℕ → ℤ) → List ℕ → ℕ → Tableau
opening number range degree = record {
  rows = map (λ k. map (opening_entry number k) (columns range degree)) (range_with_len 1 degree);
  basics = map (λ k. place_of_column (S k) (columns range degree)) (range_with_len 1 degree);
  cost = map cost_entry (columns range degree);
}
