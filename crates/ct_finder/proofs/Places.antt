-- The places of the columns, and the entries of the opening rows there.
use Rattle.ct_finder.specs.Sum.{opening_row}
use Rattle.ct_finder.specs.Inside.Rows.{rows_to}
use Rattle.std.proofs.Common.{◌≡◌, ℕ, zero, suc, ◌+◌, ◌-◌, ◌<◌, ◌≤◌, ◌==◌, Bool, true, false, ◌&&◌, not, cond, List, [], ◌∷◌, ◌++◌, map, length, get_or, refl, sym, ap, ◌∙◌, arith, eqb-true, append_assoc}
use Rattle.std.specs.Prelude.{zip, ℤ, pos, int_lt, Some}
use Rattle.std.specs.List.{range_with_len}
use Rattle.std.proofs.lemmas.Bool.{and_parts, eqb-false}
use Rattle.std.proofs.lemmas.List.{length-map, length-append, get_or-map, get_or_append_left, get_or-append_right}
use Rattle.std.proofs.lemmas.List.FromFn.{length-range_with_len, get_or-map-range_with_len}
use Rattle.std.proofs.lemmas.List.Quantifiers.{position-Some}
use Rattle.std.proofs.lemmas.Slice.Zip.{length-zip, get_or-zip}
use Rattle.ct_finder.specs.Column.{Column, is_choice, columns, place_of_column, opening_entry, cost_entry}
use Rattle.ct_finder.specs.Column.Column.{Z, A, S, Constant}
use Rattle.ct_finder.specs.Pivot.{at, constant_of, entering}

-- how many columns there are
pub length-columns : (range : List ℕ) (degree : ℕ) → length (columns range degree) ≡ length range + degree + 2
length-columns range degree =
    let front = length-map range A in
    let rows = length-map (rows_to degree) S in
    let count = length-range_with_len 1 degree in
    let both = length-append (map A range) (map S (rows_to degree) ++ Constant ∷ []) in
    let rest = length-append (map S (rows_to degree)) (Constant ∷ []) in
    omega arith

-- past the a's
place-past_a : (k : ℕ) (range : List ℕ) (rest : List Column) → place_of_column (S k) (map A range ++ rest) ≡ length range + place_of_column (S k) rest
place-past_a k [] rest = omega arith
place-past_a k (i ∷ range) rest = let ih = place-past_a k range rest in omega arith

-- among the s's
place-among_s : (k a n : ℕ) (rest : List Column) → a ≤ k → k < a + n → a + place_of_column (S k) (map S (range_with_len a n) ++ rest) ≡ k
place-among_s k a zero rest low high = absurd (omega arith)
place-among_s k a (suc n) rest low high = go (a == k) refl (place-among_s k (a + 1) n rest)
  where
    go : (t : Bool) → (a == k) ≡ t → (a + 1 ≤ k → k < a + 1 + n → a + 1 + place_of_column (S k) (map S (range_with_len (a + 1) n) ++ rest) ≡ k)
        → a + cond (not t) (1 + place_of_column (S k) (map S (range_with_len (a + 1) n) ++ rest)) 0 ≡ k
    go true is ih = let same = eqb-true a k is in omega arith
    go false is ih = let later = ih (omega (arith, eqb-false a k is)) (omega arith) in omega arith

-- the place of an s
pub place-s : (range : List ℕ) (degree k : ℕ) → 1 ≤ k → k ≤ degree → place_of_column (S k) (columns range degree) ≡ length range + k
place-s range degree k low high =
    let past = place-past_a k range (map S (rows_to degree) ++ Constant ∷ []) in
    let among = place-among_s k 1 degree (Constant ∷ []) low (omega arith) in
    omega arith

-- the columns at the places: an a, an s, and the constants last
pub column-a : (range : List ℕ) (degree i : ℕ) → i < length range → get_or (columns range degree) (suc i) Z ≡ A (get_or range i 0)
column-a range degree i within =
    get_or_append_left (map A range) (map S (rows_to degree) ++ Constant ∷ []) Z i (omega (arith, length-map range A)) ∙ get_or-map A range i 0 Z within

past_a : (range : List ℕ) (degree j : ℕ) → get_or (columns range degree) (suc (length range + j)) Z ≡ get_or (map S (rows_to degree) ++ Constant ∷ []) j Z
past_a range degree j =
    let rest = map S (rows_to degree) ++ Constant ∷ [] in
    let back : length range + j - length range ≡ j = omega arith in
    get_or-append_right (map A range) rest (length range) (length range + j) Z (length-map range A) (omega arith) ∙ ap (λ m. get_or rest m Z) back

pub column-s : (range : List ℕ) (degree j : ℕ) → j < degree → get_or (columns range degree) (suc (length range + j)) Z ≡ S (suc j)
column-s range degree j within =
    past_a range degree j
    ∙ get_or_append_left (map S (rows_to degree)) (Constant ∷ []) Z j (omega (arith, length-map (rows_to degree) S, length-range_with_len 1 degree))
    ∙ get_or-map-range_with_len S 1 degree j (suc j) Z within (omega arith)

pub column-last : (range : List ℕ) (degree : ℕ) → get_or (columns range degree) (length (columns range degree) - 1) Z ≡ Constant
column-last range degree =
    let count = length-columns range degree in
    let last : length (columns range degree) - 1 ≡ suc (length range + degree) = omega arith in
    let none : degree - degree ≡ 0 = omega arith in
    ap (λ m. get_or (columns range degree) m Z) last ∙ past_a range degree degree
    ∙ get_or-append_right (map S (rows_to degree)) (Constant ∷ []) degree degree Z (length-map (rows_to degree) S ∙ length-range_with_len 1 degree) (omega arith)
    ∙ ap (λ m. get_or (Constant ∷ []) m Z) none

-- a column that enters is an a or an s: not the first, and not the last
before_last : (xs : List Column) (e : ℕ) → is_choice (get_or (xs ++ Constant ∷ []) e Z) ≡ true → e < length xs
before_last [] zero h = absurd cc
before_last [] (suc e) h = absurd cc
before_last (x ∷ xs) zero h = omega arith
before_last (x ∷ xs) (suc e) h = let ih = before_last xs e h in omega arith

after_first : (range : List ℕ) (degree e : ℕ) → is_choice (get_or (columns range degree) e Z) ≡ true → 1 ≤ e
after_first range degree zero h = absurd cc
after_first range degree (suc e) h = omega arith

pub entering-choice : (range : List ℕ) (degree e : ℕ) (cost : List ℤ) → length cost ≡ length (columns range degree) → entering (columns range degree) cost ≡ Some e
    → (1 ≤ e) × (e + 1 < length (columns range degree))
entering-choice range degree e cost width found =
    let cs = columns range degree in
    let known = position-Some (λ p. is_choice p.0 && int_lt p.1 (pos 0)) (zip cs cost) e (Z, pos 0) found in
    let long = length-zip cs cost in
    let inside = known.0 in
    let here = get_or-zip cs cost e (Z, pos 0) (omega arith) (omega arith) in
    let both = and_parts (is_choice (get_or cs e Z)) (int_lt (get_or cost e (pos 0)) (pos 0)) (ap (λ (p : Column × ℤ). is_choice p.0 && int_lt p.1 (pos 0)) (sym here) ∙ known.1) in
    let front = Z ∷ (map A range ++ map S (rows_to degree)) in
    let cs_is : cs ≡ front ++ Constant ∷ [] = ap (λ xs. Z ∷ xs) (sym (append_assoc (map A range) (map S (rows_to degree)) (Constant ∷ []))) in
    let last = before_last front e (ap (λ xs. is_choice (get_or xs e Z)) (sym cs_is) ∙ both.0) in
    let count = ap length cs_is in
    let more = length-append front (Constant ∷ []) in
    (after_first range degree e both.0, omega arith)

-- the entries of an opening row at its places
pub opening-at : (number : ℕ → ℕ → ℤ) (range : List ℕ) (degree k b : ℕ) → b < length (columns range degree)
    → at (opening_row number (columns range degree) k) b ≡ opening_entry number k (get_or (columns range degree) b Z)
opening-at number range degree k b within = get_or-map (opening_entry number k) (columns range degree) b Z (pos 0) within

pub opening-constant : (number : ℕ → ℕ → ℤ) (range : List ℕ) (degree k : ℕ) → constant_of (opening_row number (columns range degree) k) ≡ number k 0
opening-constant number range degree k =
    let cs = columns range degree in
    let count = length-columns range degree in
    ap (λ n. at (opening_row number cs k) (n - 1)) (length-map cs (opening_entry number k))
    ∙ opening-at number range degree k (length cs - 1) (omega arith) ∙ ap (opening_entry number k) (column-last range degree)

pub cost-at : (range : List ℕ) (degree b : ℕ) → b < length (columns range degree) → at (map cost_entry (columns range degree)) b ≡ cost_entry (get_or (columns range degree) b Z)
cost-at range degree b within = get_or-map cost_entry (columns range degree) b Z (pos 0) within
