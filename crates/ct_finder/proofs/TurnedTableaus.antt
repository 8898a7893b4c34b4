-- Pivots of tableaus: each row stays a sum of the opening rows, and as wide as the columns.
use Rattle.ct_finder.specs.Inside.Pivot.{is_unbeaten}
use Rattle.ct_finder.specs.Inside.Rows.{rows_to}
use Rattle.std.proofs.Common.{◌≡◌, ℕ, ◌<◌, true, ◌&&◌, List, [], map, length, get_or, sym, ap, ◌∙◌, arith}
use Rattle.std.specs.Prelude.{zip, ℤ, pos, ◌≤ℤ◌, int_lt, Some}
use Rattle.std.proofs.lemmas.Int.{ints}
use Rattle.std.proofs.lemmas.Bool.{and_parts}
use Rattle.std.proofs.lemmas.List.{length-map}
use Rattle.std.proofs.lemmas.List.Elements.{All-map, All-set, All-get_or}
use Rattle.std.proofs.lemmas.List.Quantifiers.{position-Some}
use Rattle.std.proofs.lemmas.Slice.Zip.{length-zip, get_or-zip}
use Rattle.ct_finder.specs.Column.{Column, Tableau, columns, opening_entry, cost_entry, opening}
use Rattle.ct_finder.specs.Column.Column.{Z}
use Rattle.ct_finder.specs.Pivot.{at, is_candidate, pivot_row, pivoted_row, pivoted}
use Rattle.ct_finder.specs.Run.{coefficient}
use Rattle.ct_finder.specs.Sum.{IsSum, AreSums, HasWidth, opening_row}
use Rattle.ct_finder.proofs.Sums.{sum-pivoted, none-pivoted, some-pivoted, sums-opening}

-- a pivot keeps the width of a row
pub length-pivoted_row : (e : ℕ) (pivot row : List ℤ) → length row ≡ length pivot → length (pivoted_row e pivot row) ≡ length pivot
length-pivoted_row e pivot row same =
    simp length-map (let both = length-zip row pivot in omega arith)

-- what is known of the pivot row
pub pivot_row-is : (e : ℕ) (t : Tableau) (i : ℕ) → pivot_row e t ≡ Some i → (i < length t.rows) × (pos 1 ≤ℤ at (get_or t.rows i []) e)
pivot_row-is e t i found =
    let lines = zip t.rows t.basics in
    let known = position-Some (λ l. is_candidate e l && is_unbeaten e lines l) lines i ([], 0) found in
    let within = length-zip t.rows t.basics in
    let both = and_parts (is_candidate e (get_or lines i ([], 0))) (is_unbeaten e lines (get_or lines i ([], 0))) known.1 in
    let less = known.0 in
    let first : i < length t.rows = omega arith in
    let second : i < length t.basics = omega arith in
    let here = get_or-zip t.rows t.basics i ([], 0) first second in
    let test : int_lt (pos 0) (at (get_or t.rows i []) e) ≡ true = ap (λ l. is_candidate e l) (sym here) ∙ both.0 in
    (first, above (at (get_or t.rows i []) e) test)
  where
    above : (z : ℤ) → int_lt (pos 0) z ≡ true → pos 1 ≤ℤ z
    above z h = grind (arith, ints)

-- the tableau after a pivot is as wide
pub width-pivoted : (width e i : ℕ) (t : Tableau) → i < length t.rows → HasWidth width t → HasWidth width (pivoted e i t)
width-pivoted width e i t within has =
    let pivot = get_or t.rows i [] in
    let own : length pivot ≡ width = All-get_or (λ row. length row ≡ width) t.rows i [] within has.rows in
    record {
      rows = All-set (λ row. length row ≡ width) (map (pivoted_row e pivot) t.rows) i pivot own
          (All-map (λ row. length row ≡ width) (pivoted_row e pivot) t.rows
          (λ k d l. length-pivoted_row e pivot _ (has.rows k d l ∙ sym own) ∙ own));
      cost = length-pivoted_row e pivot t.cost (has.cost ∙ sym own) ∙ own;
    }

-- and its rows are sums of the opening rows
pub sums-pivoted : (number : ℕ → ℕ → ℤ) (cs : List Column) (degree e i : ℕ) (t : Tableau) → i < length t.rows → pos 1 ≤ℤ at (get_or t.rows i []) e
    → HasWidth (length cs) t → AreSums number cs degree t → AreSums number cs degree (pivoted e i t)
sums-pivoted number cs degree e i t within some has sums =
    let pivot = get_or t.rows i [] in
    let own : length pivot ≡ length cs = All-get_or (λ row. length row ≡ length cs) t.rows i [] within has.rows in
    let whole : IsSum number cs degree pivot = All-get_or (IsSum number cs degree) t.rows i [] within sums.rows in
    let none : coefficient cs pivot Z ≡ pos 0 = All-get_or (λ row. coefficient cs row Z ≡ pos 0) t.rows i [] within sums.none_of_cost in
    record {
      rows = All-set (IsSum number cs degree) (map (pivoted_row e pivot) t.rows) i pivot whole
          (All-map (IsSum number cs degree) (pivoted_row e pivot) t.rows
          (λ k d l. sum-pivoted number cs degree e pivot _ (has.rows k d l ∙ sym own) whole (sums.rows k d l)));
      cost = sum-pivoted number cs degree e pivot t.cost (has.cost ∙ sym own) whole sums.cost;
      none_of_cost = All-set (λ row. coefficient cs row Z ≡ pos 0) (map (pivoted_row e pivot) t.rows) i pivot none
          (All-map (λ row. coefficient cs row Z ≡ pos 0) (pivoted_row e pivot) t.rows
          (λ k d l. none-pivoted cs e pivot _ (has.rows k d l ∙ sym own) none (sums.none_of_cost k d l)));
      some_of_cost = some-pivoted cs e pivot t.cost (has.cost ∙ sym own) some none sums.some_of_cost;
    }

-- what each tableau of a run keeps
pub record IsKept (number : ℕ → ℕ → ℤ) (cs : List Column) (degree : ℕ) (t : Tableau) : Type 0 where
  pub sums : AreSums number cs degree t
  pub width : HasWidth (length cs) t

pub kept-opening : (number : ℕ → ℕ → ℤ) (range : List ℕ) (degree : ℕ) → IsKept number (columns range degree) degree (opening number range degree)
kept-opening number range degree =
    let cs = columns range degree in
    record {
      sums = sums-opening number range degree;
      width = record {
        rows = All-map (λ row. length row ≡ length cs) (opening_row number cs) (rows_to degree) (λ k d l. length-map cs (opening_entry number (get_or (rows_to degree) k d)));
        cost = length-map cs cost_entry;
      };
    }

pub kept-pivoted : (number : ℕ → ℕ → ℤ) (cs : List Column) (degree e i : ℕ) (t : Tableau) → pivot_row e t ≡ Some i
    → IsKept number cs degree t → IsKept number cs degree (pivoted e i t)
kept-pivoted number cs degree e i t found kept =
    let known = pivot_row-is e t i found in
    record {
      sums = sums-pivoted number cs degree e i t known.0 known.1 kept.width kept.sums;
      width = width-pivoted (length cs) e i t known.0 kept.width;
    }
