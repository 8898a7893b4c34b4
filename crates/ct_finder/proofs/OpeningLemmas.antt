-- The opening tableau, piece by piece.
use Rattle.ct_finder.specs.Inside.Rows.{rows_to}
use Rattle.std.proofs.Common.{◌≡◌, ℕ, suc, ◌+◌, ◌≤◌, ◌==◌, Bool, true, false, cond, List, [], ◌∷◌, ◌++◌, map, length, replicate, refl, sym, ap, ap₂, ◌∙◌, arith, subst, append_assoc}
use Rattle.std.specs.Prelude.{ℤ, pos, negsuc, neg_ℤ, ◌≤ℤ◌, All}
use Rattle.std.specs.List.{range_with_len}
use Rattle.std.proofs.lemmas.Int.{ints}
use Rattle.std.proofs.lemmas.Simd.{map-map, splat_is_map}
use Rattle.std.proofs.lemmas.List.{map-append, length-map, replicate_more}
use Rattle.std.proofs.lemmas.List.Elements.{All-cons, All-nil, All-append, All-map, All-filter}
use Rattle.std.proofs.lemmas.List.FromFn.{length-range_with_len}
use Rattle.ct_words.specs.declared.entry.Entry.{Entry}
use Rattle.ct_words.specs.Scheme.{IsSmall}
use Rattle.ct_duals.specs.Dual.{degree_of, is_in_range}
use Rattle.ct_finder.specs.Column.{Column, Tableau as TableauOf, range_of, columns, opening_entry, cost_entry, opening}
use Rattle.ct_finder.specs.Column.Column.{Z, A, S, Constant}
use Rattle.ct_finder.specs.Pivot.{is_wide}
use Rattle.ct_finder.specs.Sum.{HasWidth, opening_row}
use Rattle.ct_finder.proofs.Sums.{All-range}
use Rattle.ct_finder.specs.Run.{run}
use Rattle.ct_finder.specs.Run.End.{Least}
use Rattle.ct_finder.proofs.TurnedTableaus.{kept-opening}
use Rattle.ct_finder.proofs.Ends.{least-at, end-of_run}
use Rattle.ct_finder.proofs.Places.{length-columns}
use Rattle.ct_finder.proofs.BasicRuns.{IsSolved, solved-opening, solved-narrow}
use Rattle.ct_finder.specs.declared.tableau.Tableau.{Tableau}
use Rattle.ct_finder.specs.Narrow.{AreNarrow}
use Rattle.ct_finder.specs.Ready.{seen, IsReady}

-- 1 at k, and 0 elsewhere
abbrev pub unit : ℕ → ℕ → ℤ
unit k j = cond (j == k) (pos 1) (pos 0)

-- an opening row
pub opening_row-pieces : (number : ℕ → ℕ → ℤ) (range : List ℕ) (degree k : ℕ)
    → opening_row number (columns range degree) k
    ≡ ((pos 0 ∷ map (λ i. neg_ℤ (number k i)) range) ++ map (unit k) (rows_to degree)) ++ number k 0 ∷ []
opening_row-pieces number range degree k =
    let f = opening_entry number k in
    let front = map (λ i. neg_ℤ (number k i)) range in
    ap (λ xs. pos 0 ∷ xs)
    (map-append f (map A range) (map S (rows_to degree) ++ Constant ∷ [])
    ∙ ap₂ (λ a b. a ++ b) (map-map f A range)
    (map-append f (map S (rows_to degree)) (Constant ∷ []) ∙ ap (λ a. a ++ number k 0 ∷ []) (map-map f S (rows_to degree))))
    ∙ sym (append_assoc (pos 0 ∷ front) (map (unit k) (rows_to degree)) (number k 0 ∷ []))

-- the opening cost row
pub cost-pieces : (range : List ℕ) (degree : ℕ)
    → map cost_entry (columns range degree) ≡ ((pos 1 ∷ []) ++ replicate (length range) (negsuc 0)) ++ replicate (degree + 1) (pos 0)
cost-pieces range degree =
    ap (λ xs. pos 1 ∷ xs)
    (map-append cost_entry (map A range) (map S (rows_to degree) ++ Constant ∷ [])
    ∙ ap₂ (λ a b. a ++ b) (map-map cost_entry A range ∙ sym (splat_is_map range (length range) (negsuc 0) refl))
    (map-append cost_entry (map S (rows_to degree)) (Constant ∷ [])
    ∙ ap (λ a. a ++ pos 0 ∷ [])
    (map-map cost_entry S (rows_to degree) ∙ sym (splat_is_map (rows_to degree) degree (pos 0) (length-range_with_len 1 degree)))
    ∙ replicate_more degree (pos 0)))

-- its entries are small
narrow-small : (z : ℤ) → IsSmall z → is_wide z ≡ false
narrow-small z h = grind arith

narrow-neg : (z : ℤ) → IsSmall z → is_wide (neg_ℤ z) ≡ false
narrow-neg (pos n) h = narrow-small (neg_ℤ (pos n)) (omega (arith, ints))
narrow-neg (negsuc n) h = narrow-small (neg_ℤ (negsuc n)) (omega (arith, ints))

narrow-unit : (k j : ℕ) → is_wide (unit k j) ≡ false
narrow-unit k j = go (j == k)
  where
    go : (t : Bool) → is_wide (cond t (pos 1) (pos 0)) ≡ false
    go true = refl
    go false = refl

pub narrow-opening_row : (number : ℕ → ℕ → ℤ) (range : List ℕ) (degree k : ℕ) → ((i : ℕ) → i ≤ degree → IsSmall (number k i))
    → All (λ i. i ≤ degree) range → AreNarrow (opening_row number (columns range degree) k)
narrow-opening_row number range degree k small within =
    let P : ℤ → Type 0 = λ (z : ℤ). is_wide z ≡ false in
    let rows : AreNarrow (map (unit k) (rows_to degree)) = All-map P (unit k) (rows_to degree) (λ i d l. narrow-unit k _) in
    let front : AreNarrow (map (λ i. neg_ℤ (number k i)) range) =
    All-map P (λ i. neg_ℤ (number k i)) range (λ i d l. narrow-neg _ (small _ (within i d l))) in
    subst AreNarrow (sym (opening_row-pieces number range degree k))
    (All-append P ((pos 0 ∷ map (λ i. neg_ℤ (number k i)) range) ++ map (unit k) (rows_to degree)) (number k 0 ∷ [])
    (All-append P (pos 0 ∷ map (λ i. neg_ℤ (number k i)) range) (map (unit k) (rows_to degree))
    (All-cons P (pos 0) (map (λ i. neg_ℤ (number k i)) range) refl front) rows)
    (All-cons P (number k 0) [] (narrow-small (number k 0) (small 0 (omega arith))) (All-nil P)))

pub narrow-cost : (range : List ℕ) (degree : ℕ) → AreNarrow (map cost_entry (columns range degree))
narrow-cost range degree = All-map (λ z. is_wide z ≡ false) cost_entry (columns range degree) (λ i d l. narrow_at _)
  where
    narrow_at : (c : Column) → is_wide (cost_entry c) ≡ false
    narrow_at Z = refl
    narrow_at (A i) = refl
    narrow_at (S k) = refl
    narrow_at Constant = refl

-- the indices of the range
pub range-within : (e : Entry) (even : Bool) → All (λ i. i ≤ degree_of e) (range_of e even)
range-within e even =
    All-filter (is_in_range e even) (λ i. i ≤ degree_of e) (range_with_len 0 (suc (degree_of e)))
    (All-range (λ i. i ≤ degree_of e) 0 (suc (degree_of e)) (λ k low high. omega arith))

-- the opening tableau is ready for pivots
pub ready-opening : (t : Tableau) (number : ℕ → ℕ → ℤ) (range : List ℕ) (degree : ℕ) → seen t ≡ opening number range degree
    → length t.pivot ≡ length (columns range degree) → IsReady t
ready-opening t number range degree is pivot =
    let cs = columns range degree in
    let width = subst (HasWidth (length cs)) (sym is) (kept-opening number range degree).width in
    let cost : length t.cost ≡ length cs = width.cost in
    let rows = ap (λ s. length s.rows) is ∙ length-map (rows_to degree) (opening_row number cs) in
    let basics = ap (λ s. length s.basics) is ∙ length-map (rows_to degree) _ in
    let count = length-columns range degree in
    record {
      width = subst (λ w. HasWidth w (seen t)) (sym cost) width;
      count = basics ∙ sym rows;
      pivot = pivot ∙ sym cost;
      some = omega arith;
    }

-- the tableau with which a run from it ends as least has an entry for each column in its cost row
pub least-width : (number : ℕ → ℕ → ℤ) (range : List ℕ) (degree pivots : ℕ) (last : TableauOf)
    → run (columns range degree) pivots (opening number range degree) ≡ Least last → HasWidth (length (columns range degree)) last
least-width number range degree pivots last is =
    (least-at number (columns range degree) degree pivots (opening number range degree) last (kept-opening number range degree) is).kept.width

-- and what is known of it beside
pub least-solved : (number : ℕ → ℕ → ℤ) (range : List ℕ) (degree pivots : ℕ) (last : TableauOf) → ((k : ℕ) → k ≤ degree → pos 0 ≤ℤ number k 0)
    → run (columns range degree) pivots (opening number range degree) ≡ Least last → IsSolved number range degree last
least-solved number range degree pivots last some is =
    (end-of_run (IsSolved number range degree) (columns range degree) (solved-narrow number range degree) pivots (opening number range degree) last
    (solved-opening number range degree some) is).kept

-- two numbers, neither of which is more than the other
pub same_number : (n m : ℕ) → n ≤ m → m ≤ n → n ≡ m
same_number n m no_more no_less = omega arith
