-- The entries of a row at the s's.
use Rattle.ct_finder.specs.Inside.Rows.{rows_to, multipliers_of}
use Rattle.std.proofs.Common.{◌≡◌, ℕ, zero, suc, ◌+◌, ◌-◌, ◌<◌, ◌≤◌, ◌==◌, length-drop, cond, List, [], ◌∷◌, ◌++◌, map, length, take, drop, get_or, take_all, refl, sym, ap, ap₂, ◌∙◌, arith, eq-eqb}
use Rattle.std.specs.Prelude.{ℤ, pos}
use Rattle.std.specs.List.{range_with_len}
use Rattle.std.proofs.lemmas.Bool.{ne_eqb}
use Rattle.ct_finder.specs.Column.{Column, columns}
use Rattle.ct_finder.specs.Column.Column.{A, S, Constant}
use Rattle.ct_finder.specs.Run.{coefficient}
use Rattle.ct_finder.proofs.Places.{length-columns}

-- a row without entries
coefficient-none : (cs : List Column) (c : Column) → coefficient cs [] c ≡ pos 0
coefficient-none [] c = refl
coefficient-none (x ∷ cs) c = refl

entry-past_a : (k : ℕ) (range : List ℕ) (rest : List Column) (row : List ℤ)
    → coefficient (map A range ++ rest) row (S k) ≡ coefficient rest (drop (length range) row) (S k)
entry-past_a k [] rest row = refl
entry-past_a k (i ∷ range) rest [] = sym (coefficient-none rest (S k))
entry-past_a k (i ∷ range) rest (v ∷ row) = entry-past_a k range rest row

-- functions that agree from a on
map-range : (f g : ℕ → ℤ) (a n : ℕ) → ((k : ℕ) → a ≤ k → k < a + n → f k ≡ g k) → map f (range_with_len a n) ≡ map g (range_with_len a n)
map-range f g a zero h = refl
map-range f g a (suc n) h =
    ap₂ (λ v vs. v ∷ vs) (h a (omega arith) (omega arith)) (map-range f g (a + 1) n (λ k low high. h k (omega arith) (omega arith)))

entries-among_s : (a n : ℕ) (rest : List Column) (row : List ℤ) → n ≤ length row
    → map (λ k. coefficient (map S (range_with_len a n) ++ rest) row (S k)) (range_with_len a n) ≡ take n row
entries-among_s a zero rest row enough = refl
entries-among_s a (suc n) rest [] enough = absurd (omega arith)
entries-among_s a (suc n) rest (v ∷ row) enough =
    let cs = map S (range_with_len (a + 1) n) ++ rest in
    ap₂ (λ u us. u ∷ us) (ap (λ t. cond t v (coefficient cs row (S a))) (eq-eqb a a refl))
    (map-range (λ k. cond (a == k) v (coefficient cs row (S k))) (λ k. coefficient cs row (S k)) (a + 1) n
    (λ k low high. ap (λ t. cond t v (coefficient cs row (S k))) (ne_eqb a k (λ e. omega arith)))
    ∙ entries-among_s (a + 1) n rest row (omega arith))

-- the multipliers of a cost row: its first entry, and those at the s's
pub multipliers-are : (range : List ℕ) (degree : ℕ) (cost : List ℤ) → length cost ≡ length (columns range degree)
    → multipliers_of (columns range degree) degree cost ≡ get_or cost 0 (pos 0) ∷ take degree (drop (length range + 1) cost)
multipliers-are range degree [] width = absurd (let count = length-columns range degree in omega arith)
multipliers-are range degree (v ∷ cost) width =
    let count = length-columns range degree in
    let next : suc (length range) ≡ length range + 1 = omega arith in
    ap (λ vs. v ∷ vs)
    (map-range (λ k. coefficient (map A range ++ (map S (rows_to degree) ++ Constant ∷ [])) cost (S k))
    (λ k. coefficient (map S (rows_to degree) ++ Constant ∷ []) (drop (length range) cost) (S k)) 1 degree
    (λ k low high. entry-past_a k range (map S (rows_to degree) ++ Constant ∷ []) cost)
    ∙ entries-among_s 1 degree (Constant ∷ []) (drop (length range) cost) (omega (arith, length-drop (length range) cost))
    ∙ ap (λ m. take degree (drop m (v ∷ cost))) next)

-- the same, read place by place
pub multipliers-read : (range : List ℕ) (degree : ℕ) (cost : List ℤ) (index : ℕ) → length cost ≡ length (columns range degree)
    → length (take (length cost - 1 - (length range + 1)) (drop (length range + 1) cost)) ≤ index
    → get_or cost 0 (pos 0) ∷ take index (take (length cost - 1 - (length range + 1)) (drop (length range + 1) cost))
    ≡ multipliers_of (columns range degree) degree cost
multipliers-read range degree cost index width done =
    let count = length-columns range degree in
    let until : length cost - 1 - (length range + 1) ≡ degree = omega arith in
    let entries = take (length cost - 1 - (length range + 1)) (drop (length range + 1) cost) in
    ap (λ vs. get_or cost 0 (pos 0) ∷ vs) (take_all index entries done ∙ ap (λ n. take n (drop (length range + 1) cost)) until)
    ∙ sym (multipliers-are range degree cost width)
