-- Each row of a run is a sum of the opening rows: the opening tableau's rows are, and pivots keep it.
use Rattle.ct_finder.specs.Inside.Pivot.{crossed}
use Rattle.ct_finder.specs.Inside.Rows.{rows_to}
use Rattle.std.proofs.Common.{◌≡◌, ℕ, zero, suc, ◌+◌, ◌<◌, ◌≤◌, cond, List, map, length, refl, sym, ap, ap₂, ◌∙◌, arith}
use Rattle.std.specs.Prelude.{ℤ, pos, ◌-ℤ◌, ◌*ℤ◌, ◌≤ℤ◌}
use Rattle.std.specs.List.{All, range_with_len}
use Rattle.std.proofs.lemmas.Int.{ints}
use Rattle.std.proofs.lemmas.List.Elements.{All-nil, All-cons, All-map}
use Rattle.ct_words.specs.Counting.Alternating.{total_below}
use Rattle.ct_finder.specs.Column.{Column, columns, opening_entry, cost_entry, opening}
use Rattle.ct_finder.specs.Column.Column.{Z, S}
use Rattle.ct_finder.specs.Divisor.{divisor}
use Rattle.ct_finder.specs.Pivot.{at, pivoted_row}
use Rattle.ct_finder.specs.Run.{coefficient}
use Rattle.ct_finder.specs.Sum.{sum_of_opening, IsSum, AreSums, opening_row}
use Rattle.ct_finder.proofs.Divisors.{divisor-some}
use Rattle.ct_finder.proofs.Entries.{coefficient-map, has-s, coefficient-crossed, coefficient-reduced}
use Rattle.ct_finder.proofs.Crossed.{same_suc, int_cancel, positive-mul, positive-from, product-crossed, sum-crossed, total-crossed, total-none, total-one}

-- what a pivot makes of a row, column by column
pub pivoted_row-at : (cs : List Column) (e : ℕ) (pivot row : List ℤ) → length row ≡ length pivot → (c : Column)
    → pos (divisor (crossed (at pivot e) (at row e) pivot row)) *ℤ coefficient cs (pivoted_row e pivot row) c
    ≡ (at pivot e *ℤ coefficient cs row c) -ℤ (at row e *ℤ coefficient cs pivot c)
pivoted_row-at cs e pivot row same c =
    coefficient-reduced cs (crossed (at pivot e) (at row e) pivot row) c ∙ coefficient-crossed cs (at pivot e) (at row e) pivot row same c

-- a pivot keeps that a row is a sum of the opening rows
pub sum-pivoted : (number : ℕ → ℕ → ℤ) (cs : List Column) (degree e : ℕ) (pivot row : List ℤ) → length row ≡ length pivot
    → IsSum number cs degree pivot → IsSum number cs degree row → IsSum number cs degree (pivoted_row e pivot row)
sum-pivoted number cs degree e pivot row same whole part c =
    let p = at pivot e in
    let r = at row e in
    let new = pivoted_row e pivot row in
    let g = divisor (crossed p r pivot row) in
    let w : ℕ → ℤ = λ (k : ℕ). coefficient cs (opening_row number cs (suc k)) c in
    let first = product-crossed (pos g) p r (coefficient cs new Z) (coefficient cs row Z) (coefficient cs pivot Z) (coefficient cs (map cost_entry cs) c)
    (pivoted_row-at cs e pivot row same Z) in
    let rest = total-crossed (pos g) p r (λ k. coefficient cs new (S (suc k))) (λ k. coefficient cs row (S (suc k))) (λ k. coefficient cs pivot (S (suc k))) w degree
    (λ k. pivoted_row-at cs e pivot row same (S (suc k))) in
    let sums = sum-crossed (pos g) p r
    (coefficient cs new Z *ℤ coefficient cs (map cost_entry cs) c) (coefficient cs row Z *ℤ coefficient cs (map cost_entry cs) c) (coefficient cs pivot Z *ℤ coefficient cs (map cost_entry cs) c)
    (total_below (λ k. coefficient cs new (S (suc k)) *ℤ w k) degree) (total_below (λ k. coefficient cs row (S (suc k)) *ℤ w k) degree) (total_below (λ k. coefficient cs pivot (S (suc k)) *ℤ w k) degree)
    first rest in
    int_cancel g (coefficient cs new c) (sum_of_opening number cs degree new c) (divisor-some (crossed p r pivot row))
    (pivoted_row-at cs e pivot row same c ∙ ap₂ (λ a b. (p *ℤ a) -ℤ (r *ℤ b)) (part c) (whole c) ∙ sym sums)

-- of rows without the cost row a pivot makes such
pub none-pivoted : (cs : List Column) (e : ℕ) (pivot row : List ℤ) → length row ≡ length pivot
    → coefficient cs pivot Z ≡ pos 0 → coefficient cs row Z ≡ pos 0 → coefficient cs (pivoted_row e pivot row) Z ≡ pos 0
none-pivoted cs e pivot row same none other =
    let g = divisor (crossed (at pivot e) (at row e) pivot row) in
    let whole = pivoted_row-at cs e pivot row same Z in
    let first = ap (λ a. at pivot e *ℤ a) other in
    let second = ap (λ a. at row e *ℤ a) none in
    int_cancel g (coefficient cs (pivoted_row e pivot row) Z) (pos 0) (divisor-some (crossed (at pivot e) (at row e) pivot row)) (omega (arith, ints))

-- and the cost row stays in itself where the pivot entry is positive
pub some-pivoted : (cs : List Column) (e : ℕ) (pivot row : List ℤ) → length row ≡ length pivot → pos 1 ≤ℤ at pivot e
    → coefficient cs pivot Z ≡ pos 0 → pos 1 ≤ℤ coefficient cs row Z → pos 1 ≤ℤ coefficient cs (pivoted_row e pivot row) Z
some-pivoted cs e pivot row same pivot_some none some =
    let g = divisor (crossed (at pivot e) (at row e) pivot row) in
    let whole = pivoted_row-at cs e pivot row same Z in
    let second = ap (λ a. at row e *ℤ a) none in
    let product = positive-mul (at pivot e) (coefficient cs row Z) pivot_some some in
    positive-from g (coefficient cs (pivoted_row e pivot row) Z) (omega (arith, ints))

-- all of a list from a on
pub All-range : (P : ℕ → Type 0) (a n : ℕ) → ((k : ℕ) → a ≤ k → k < a + n → P k) → All P (range_with_len a n)
All-range P a zero h = All-nil P
All-range P a (suc n) h =
    All-cons P a (range_with_len (a + 1) n) (h a (omega arith) (omega arith)) (All-range P (a + 1) n (λ k low high. h k (omega arith) (omega arith)))

-- an opening row is the sum that has it once
pub sum-opening_row : (number : ℕ → ℕ → ℤ) (range : List ℕ) (degree j : ℕ) → j < degree
    → IsSum number (columns range degree) degree (opening_row number (columns range degree) (suc j))
sum-opening_row number range degree j within c =
    let cs = columns range degree in
    let w : ℕ → ℤ = λ (k : ℕ). coefficient cs (opening_row number cs (suc k)) c in
    let rest = total-one (λ k. coefficient cs (opening_row number cs (suc j)) (S (suc k))) w j degree within
    (λ k l. coefficient-map (opening_entry number (suc j)) cs (S (suc k)) (has-s range degree (suc k) (omega arith) (omega arith))
    ∙ ap (λ t. cond t (pos 1) (pos 0)) (same_suc k j)) in
    omega (arith, ints)

pub sum-opening_cost : (number : ℕ → ℕ → ℤ) (range : List ℕ) (degree : ℕ) → IsSum number (columns range degree) degree (map cost_entry (columns range degree))
sum-opening_cost number range degree c =
    let cs = columns range degree in
    let w : ℕ → ℤ = λ (k : ℕ). coefficient cs (opening_row number cs (suc k)) c in
    let rest = total-none (λ k. coefficient cs (map cost_entry cs) (S (suc k))) w degree
    (λ k l. coefficient-map cost_entry cs (S (suc k)) (has-s range degree (suc k) (omega arith) (omega arith))) in
    omega (arith, ints)

-- the opening tableau
pub sums-opening : (number : ℕ → ℕ → ℤ) (range : List ℕ) (degree : ℕ) → AreSums number (columns range degree) degree (opening number range degree)
sums-opening number range degree =
    let cs = columns range degree in
    record {
      rows = All-map (IsSum number cs degree) (opening_row number cs) (rows_to degree)
          (All-range (λ k. IsSum number cs degree (opening_row number cs k)) 1 degree (λ k low high. row k low (omega arith)));
      cost = sum-opening_cost number range degree;
      none_of_cost = All-map (λ row. coefficient cs row Z ≡ pos 0) (opening_row number cs) (rows_to degree)
          (All-range (λ k. coefficient cs (opening_row number cs k) Z ≡ pos 0) 1 degree (λ k low high. refl));
      some_of_cost = omega (arith, ints);
    }
  where
    row : (k : ℕ) → 1 ≤ k → k ≤ degree → IsSum number (columns range degree) degree (opening_row number (columns range degree) k)
    row zero low high = absurd (omega arith)
    row (suc j) low high = sum-opening_row number range degree j (omega arith)
