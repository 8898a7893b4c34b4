-- The entering column, place by place.
use Rattle.ct_finder.specs.Inside.Rows.{rows_to}
use Rattle.std.proofs.Common.{◌≡◌, ℕ, zero, suc, ◌+◌, ◌<◌, ◌≤◌, Bool, true, false, ◌&&◌, cond, List, [], ◌∷◌, ◌++◌, map, length, get_or, refl, sym, ap, ap₂, ◌∙◌, arith, append_assoc, length-append, inl, inr}
use Rattle.std.specs.Prelude.{zip, ℤ, pos, int_lt, Some, None, position}
use Rattle.std.specs.List.{All, position_or_len}
use Rattle.std.proofs.lemmas.Bool.{lt-ltb, le-ltb, and_right, and_left, cases_lt}
use Rattle.std.proofs.lemmas.List.{get_or_append_left}
use Rattle.std.proofs.lemmas.List.Elements.{All-append, All-map, All-get_or}
use Rattle.std.proofs.lemmas.List.Sums.{position_or_len_is}
use Rattle.std.proofs.lemmas.Slice.Zip.{length-zip, get_or-zip}
use Rattle.std.proofs.Math.Seq.{get_or-append_seam}
use Rattle.ct_finder.specs.Column.{Column, is_choice, columns}
use Rattle.ct_finder.specs.Column.Column.{Z, A, S, Constant}
use Rattle.ct_finder.specs.Pivot.{entering}

-- all columns but the first and the last are an a or an s
IsChoice : Column → Type 0
IsChoice c = is_choice c ≡ true

abbrev choices : List ℕ → ℕ → List Column
choices range degree = map A range ++ map S (rows_to degree)

columns-are : (range : List ℕ) (degree : ℕ) → columns range degree ≡ Z ∷ (choices range degree ++ Constant ∷ [])
columns-are range degree = ap (λ cs. Z ∷ cs) (sym (append_assoc (map A range) (map S (rows_to degree)) (Constant ∷ [])))

all_choices : (range : List ℕ) (degree : ℕ) → All (λ c. is_choice c ≡ true) (choices range degree)
all_choices range degree =
    All-append (λ c. is_choice c ≡ true) (map A range) (map S (rows_to degree))
    (All-map (λ c. is_choice c ≡ true) A range (λ k d l. refl))
    (All-map (λ c. is_choice c ≡ true) S (rows_to degree) (λ k d l. refl))

choice-inside : (range : List ℕ) (degree k : ℕ) → k + 2 < length (columns range degree) → is_choice (get_or (columns range degree) (suc k) Z) ≡ true
choice-inside range degree k within =
    let count = ap length (columns-are range degree) in
    let whole = length-append (choices range degree) (Constant ∷ []) in
    let inside : k < length (choices range degree) = omega arith in
    ap (λ cs. is_choice (get_or cs (suc k) Z)) (columns-are range degree)
    ∙ ap is_choice (get_or_append_left (choices range degree) (Constant ∷ []) Z k inside)
    ∙ All-get_or (λ c. is_choice c ≡ true) (choices range degree) k Z inside (all_choices range degree)

last-is : (range : List ℕ) (degree k : ℕ) → suc (suc k) ≡ length (columns range degree) → is_choice (get_or (columns range degree) (suc k) Z) ≡ false
last-is range degree k end =
    let count = ap length (columns-are range degree) in
    let whole = length-append (choices range degree) (Constant ∷ []) in
    let place : k ≡ length (choices range degree) = omega arith in
    ap (λ cs. is_choice (get_or cs (suc k) Z)) (columns-are range degree)
    ∙ ap (λ j. is_choice (get_or (choices range degree ++ Constant ∷ []) j Z)) place
    ∙ ap is_choice (get_or-append_seam (choices range degree) Constant [] Z)

-- whether a column enters, by its place
abbrev enters : Column × ℤ → Bool
enters p = is_choice p.0 && int_lt p.1 (pos 0)

enters-at : (cs : List Column) (cost : List ℤ) (k : ℕ) → length cost ≡ length cs → k < length cost
    → enters (get_or (zip cs cost) k (Z, pos 0)) ≡ (is_choice (get_or cs k Z) && int_lt (get_or cost k (pos 0)) (pos 0))
enters-at cs cost k same within = ap enters (get_or-zip cs cost k (Z, pos 0) (omega arith) within)

-- a place before which no entry of an a or s is negative
fails_at : (range : List ℕ) (degree : ℕ) (cost : List ℤ) (j k : ℕ) → length cost ≡ length (columns range degree)
    → ((m : ℕ) → 1 ≤ m → m < j → int_lt (get_or cost m (pos 0)) (pos 0) ≡ false) → k < j → k < length cost
    → enters (get_or (zip (columns range degree) cost) k (Z, pos 0)) ≡ false
fails_at range degree cost j zero same before less within = enters-at (columns range degree) cost zero same within
fails_at range degree cost j (suc k) same before less within =
    enters-at (columns range degree) cost (suc k) same within
    ∙ and_right (is_choice (get_or (columns range degree) (suc k) Z)) (int_lt (get_or cost (suc k) (pos 0)) (pos 0)) (before (suc k) (omega arith) less)

position-at : (xs : List (Column × ℤ)) (i : ℕ) → position_or_len enters xs ≡ i → i < length xs → position enters xs ≡ Some i
position-at xs i is within =
    ap (λ b. cond b (Some (position_or_len enters xs)) None) (lt-ltb (position_or_len enters xs) (length xs) (omega arith)) ∙ ap Some is

position-none : (xs : List (Column × ℤ)) → length xs ≤ position_or_len enters xs → position enters xs ≡ None
position-none xs past = ap (λ b. cond b (Some (position_or_len enters xs)) None) (le-ltb (position_or_len enters xs) (length xs) past)

pub entering-found : (range : List ℕ) (degree : ℕ) (cost : List ℤ) (j : ℕ) → length cost ≡ length (columns range degree) → 1 ≤ j → j + 1 < length cost
    → ((m : ℕ) → 1 ≤ m → m < j → int_lt (get_or cost m (pos 0)) (pos 0) ≡ false) → int_lt (get_or cost j (pos 0)) (pos 0) ≡ true
    → entering (columns range degree) cost ≡ Some j
entering-found range degree cost zero same some within before negative = absurd (omega arith)
entering-found range degree cost (suc k) same some within before negative =
    let cs = columns range degree in
    let xs = zip cs cost in
    let count = length-zip cs cost in
    let choice = choice-inside range degree k (omega arith) in
    let passes : enters (get_or xs (suc k) (Z, pos 0)) ≡ true = enters-at cs cost (suc k) same (omega arith) ∙ ap₂ (λ a b. a && b) choice negative in
    position-at xs (suc k)
    (position_or_len_is enters xs (suc k) (Z, pos 0) (omega arith) (λ m l. fails_at range degree cost (suc k) m same before l (omega arith)) (λ l. passes))
    (omega arith)

pub entering-none : (range : List ℕ) (degree : ℕ) (cost : List ℤ) (j : ℕ) → length cost ≡ length (columns range degree) → length cost ≤ j + 1
    → ((m : ℕ) → 1 ≤ m → m < j → int_lt (get_or cost m (pos 0)) (pos 0) ≡ false)
    → entering (columns range degree) cost ≡ None
entering-none range degree cost j same past before =
    let cs = columns range degree in
    let xs = zip cs cost in
    let count = length-zip cs cost in
    let first = ap length (columns-are range degree) in
    let whole = length-append (choices range degree) (Constant ∷ []) in
    position-none xs
    (let at_end : position_or_len enters xs ≡ length xs =
    position_or_len_is enters xs (length xs) (Z, pos 0) (omega arith) (λ m l. last_or_before m (omega arith)) (λ l. absurd (omega arith)) in
    omega arith)
  where
    last_or_before : (m : ℕ) → m < length cost → enters (get_or (zip (columns range degree) cost) m (Z, pos 0)) ≡ false
    last_or_before m within = elim (cases_lt m j) [
      | inl less ↦ fails_at range degree cost j m same before less within
      | inr not_less ↦ at_last m within not_less
    ]
      where
        at_last : (m : ℕ) → m < length cost → j ≤ m → enters (get_or (zip (columns range degree) cost) m (Z, pos 0)) ≡ false
        at_last zero within past' = enters-at (columns range degree) cost zero same within
        at_last (suc k) within past' =
            enters-at (columns range degree) cost (suc k) same within
            ∙ and_left (is_choice (get_or (columns range degree) (suc k) Z)) (int_lt (get_or cost (suc k) (pos 0)) (pos 0)) (last-is range degree k (omega arith))
