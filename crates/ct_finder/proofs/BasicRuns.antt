-- What is kept through a run beside sums: what solves its rows solves the opening rows, and each row has its basic column to itself.
use Rattle.ct_finder.specs.Inside.Rows.{rows_to}
use Rattle.std.proofs.Common.{◌≡◌, ℕ, suc, ◌+◌, ◌<◌, ◌≤◌, ◌==◌, cond, List, [], length, refl, sym, ap, ap₂, ◌∙◌, arith, subst, eq-eqb}
use Rattle.std.specs.Prelude.{ℤ, pos, ◌≤ℤ◌}
use Rattle.std.proofs.lemmas.Int.{ints}
use Rattle.std.proofs.lemmas.Bool.{ne_eqb}
use Rattle.std.proofs.lemmas.List.{length-map}
use Rattle.std.proofs.lemmas.List.FromFn.{length-range_with_len, get_or-map-range_with_len}
use Rattle.ct_finder.specs.Column.{Tableau, columns, place_of_column, opening_entry, cost_entry, opening}
use Rattle.ct_finder.specs.Column.Column.{S}
use Rattle.ct_finder.specs.Pivot.{at, constant_of}
use Rattle.ct_finder.specs.Sum.{after, opening_row}
use Rattle.ct_finder.specs.Basic.{row_at, basic_at, Solves, AreBasic}
use Rattle.ct_finder.proofs.TurnedTableaus.{IsKept, pivot_row-is, kept-opening, kept-pivoted}
use Rattle.ct_finder.proofs.BasicPivots.{solves-back, basic-pivoted}
use Rattle.ct_finder.proofs.Places.{length-columns, place-s, column-s, entering-choice, opening-at, opening-constant, cost-at}
use Rattle.ct_finder.proofs.Ends.{KeepsNarrow, Keeps, kept-after_pivots}

-- the opening tableau
pub opening-row_at : (number : ℕ → ℕ → ℤ) (range : List ℕ) (degree k : ℕ) → k < degree
    → row_at (opening number range degree) k ≡ opening_row number (columns range degree) (suc k)
opening-row_at number range degree k within = get_or-map-range_with_len (opening_row number (columns range degree)) 1 degree k (suc k) [] within (omega arith)

opening-basic_at : (number : ℕ → ℕ → ℤ) (range : List ℕ) (degree k : ℕ) → k < degree → basic_at (opening number range degree) k ≡ suc (length range + k)
opening-basic_at number range degree k within =
    get_or-map-range_with_len (λ j. place_of_column (S j) (columns range degree)) 1 degree k (suc k) 0 within (omega arith)
    ∙ place-s range degree (suc k) (omega arith) (omega arith) ∙ omega arith

-- the entry of an opening row at a basic column
opening-unit : (number : ℕ → ℕ → ℤ) (range : List ℕ) (degree j k : ℕ) → j < degree → k < degree
    → at (row_at (opening number range degree) j) (basic_at (opening number range degree) k) ≡ cond (suc k == suc j) (pos 1) (pos 0)
opening-unit number range degree j k l m =
    let count = length-columns range degree in
    ap₂ (λ row b. at row b) (opening-row_at number range degree j l) (opening-basic_at number range degree k m)
    ∙ opening-at number range degree (suc j) (suc (length range + k)) (omega arith) ∙ ap (opening_entry number (suc j)) (column-s range degree k m)

pub rows-opening : (number : ℕ → ℕ → ℤ) (range : List ℕ) (degree : ℕ) → length (opening number range degree).rows ≡ degree
rows-opening number range degree = length-map (rows_to degree) (opening_row number (columns range degree)) ∙ length-range_with_len 1 degree

pub basic-opening : (number : ℕ → ℕ → ℤ) (range : List ℕ) (degree : ℕ) → ((k : ℕ) → k ≤ degree → pos 0 ≤ℤ number k 0)
    → AreBasic (length (columns range degree)) (opening number range degree)
basic-opening number range degree some =
    let t = opening number range degree in
    let rows = rows-opening number range degree in
    let width = length-columns range degree in
    record {
      count = length-map (rows_to degree) (λ k. place_of_column (S k) (columns range degree)) ∙ sym (length-map (rows_to degree) (opening_row number (columns range degree)));
      choices = λ k l. let place = opening-basic_at number range degree k (omega arith) in (omega arith, omega arith);
      constants = λ k l. subst (λ z. pos 0 ≤ℤ z) (sym (ap constant_of (opening-row_at number range degree k (omega arith)) ∙ opening-constant number range degree (suc k)))
          (some (suc k) (omega arith));
      own = λ k l. subst (λ z. pos 1 ≤ℤ z)
          (sym (opening-unit number range degree k k (omega arith) (omega arith) ∙ ap (λ b. cond b (pos 1) (pos 0)) (eq-eqb (suc k) (suc k) refl))) (omega (arith, ints));
      others = λ j k l m different.
          opening-unit number range degree j k (omega arith) (omega arith) ∙ ap (λ b. cond b (pos 1) (pos 0)) (ne_eqb (suc k) (suc j) (λ e. different (omega arith)));
      cost = λ k l.
          ap (λ b. at t.cost b) (opening-basic_at number range degree k (omega arith)) ∙ cost-at range degree (suc (length range + k)) (omega arith)
          ∙ ap cost_entry (column-s range degree k (omega arith));
    }

-- what each tableau of a run keeps beside
pub record IsSolved (number : ℕ → ℕ → ℤ) (range : List ℕ) (degree : ℕ) (t : Tableau) : Type 0 where
  pub kept : IsKept number (columns range degree) degree t
  pub basic : AreBasic (length (columns range degree)) t
  pub back : (x : List (ℕ × ℤ)) → Solves x t → Solves x (opening number range degree)

pub solved-opening : (number : ℕ → ℕ → ℤ) (range : List ℕ) (degree : ℕ) → ((k : ℕ) → k ≤ degree → pos 0 ≤ℤ number k 0)
    → IsSolved number range degree (opening number range degree)
solved-opening number range degree some = record {
  kept = kept-opening number range degree;
  basic = basic-opening number range degree some;
  back = λ x solves. solves;
}

pub solved-pivoted : (number : ℕ → ℕ → ℤ) (range : List ℕ) (degree : ℕ) → Keeps (columns range degree) (IsSolved number range degree)
solved-pivoted number range degree t e i enters found solved =
    let cs = columns range degree in
    let known = pivot_row-is e t i found in
    let width = solved.kept.width in
    record {
      kept = kept-pivoted number cs degree e i t found solved.kept;
      basic = basic-pivoted (length cs) e i t width (entering-choice range degree e t.cost width.cost enters) found solved.basic;
      back = λ x solves. solved.back x (solves-back (length cs) e i t width known.0 known.1 x solves);
    }

pub solved-narrow : (number : ℕ → ℕ → ℤ) (range : List ℕ) (degree : ℕ) → KeepsNarrow (columns range degree) (IsSolved number range degree)
solved-narrow number range degree t e i enters found narrow solved = solved-pivoted number range degree t e i enters found solved

-- what solves the rows after some pivots solves the opening rows, whatever the numbers of the scheme are
record IsBack (number : ℕ → ℕ → ℤ) (range : List ℕ) (degree : ℕ) (t : Tableau) : Type 0 where
  kept : IsKept number (columns range degree) degree t
  back : (x : List (ℕ × ℤ)) → Solves x t → Solves x (opening number range degree)

pub back-after : (number : ℕ → ℕ → ℤ) (range : List ℕ) (degree pivots : ℕ) (x : List (ℕ × ℤ))
    → Solves x (after (columns range degree) pivots (opening number range degree)) → Solves x (opening number range degree)
back-after number range degree pivots x =
    let cs = columns range degree in
    (kept-after_pivots (IsBack number range degree) cs
    (λ t e i enters found h.
    let known = pivot_row-is e t i found in
    record {
      kept = kept-pivoted number cs degree e i t found h.kept;
      back = λ y solves. h.back y (solves-back (length cs) e i t h.kept.width known.0 known.1 y solves);
    })
    pivots (opening number range degree) (record { kept = kept-opening number range degree; back = λ y solves. solves })).back x

pub basic-after : (number : ℕ → ℕ → ℤ) (range : List ℕ) (degree pivots : ℕ) → ((k : ℕ) → k ≤ degree → pos 0 ≤ℤ number k 0)
    → AreBasic (length (columns range degree)) (after (columns range degree) pivots (opening number range degree))
basic-after number range degree pivots some =
    (kept-after_pivots (IsSolved number range degree) (columns range degree) (solved-pivoted number range degree) pivots (opening number range degree)
    (solved-opening number range degree some)).basic
