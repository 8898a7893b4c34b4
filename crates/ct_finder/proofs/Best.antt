-- The best of the first candidates, and the pivot row as the best of all.
use Rattle.std.proofs.Common.{◌≡◌, ℕ, ◌+◌, ◌<◌, Bool, true, false, ◌&&◌, not, cond, List, [], length, get_or, refl, sym, ap, ap₂, ◌∙◌, arith, inl, inr}
use Rattle.std.specs.Prelude.{zip, ℤ, pos, ◌*ℤ◌, ◌≤ℤ◌, int_lt, Option, Some, None, position}
use Rattle.std.specs.List.{position_or_len}
use Rattle.std.proofs.lemmas.Int.{ints}
use Rattle.std.proofs.lemmas.Bool.{and_parts, and_left, cases_lt, lt-ltb, le-ltb}
use Rattle.std.proofs.lemmas.List.Sums.{position_or_len_is, list_all-from_AllPass}
use Rattle.std.proofs.lemmas.List.Folds.{list_all_at}
use Rattle.std.proofs.lemmas.List.{get_or_default}
use Rattle.std.proofs.lemmas.List.Elements.{All-from_get_or}
use Rattle.std.proofs.lemmas.Slice.Zip.{get_or-zip}
use Rattle.ct_finder.specs.Pivot.{at, constant_of, is_candidate, comes_before}
use Rattle.ct_finder.specs.Inside.Pivot.{line_at, is_better, is_unbeaten}
use Rattle.ct_finder.proofs.Before.{precedes-cotransitive, precedes-asymmetric, precedes-irreflexive}

candidate-positive : (e : ℕ) (l : List ℤ × ℕ) → is_candidate e l ≡ true → pos 1 ≤ℤ at l.0 e
candidate-positive e l h = positive (at l.0 e) h
  where
    positive : (z : ℤ) → int_lt (pos 0) z ≡ true → pos 1 ≤ℤ z
    positive z h = grind (arith, ints)

-- what comes before one that another doesn't come before, comes before the other
before-cotransitive : (e : ℕ) (l m n : List ℤ × ℕ) → is_candidate e l ≡ true → is_candidate e m ≡ true → is_candidate e n ≡ true
    → comes_before e l m ≡ true → comes_before e n m ≡ false → comes_before e l n ≡ true
before-cotransitive e l m n p q r before not_before =
    precedes-cotransitive (constant_of l.0) (at l.0 e) (constant_of m.0) (at m.0 e) (constant_of n.0) (at n.0 e) l.1 m.1 n.1
    (candidate-positive e l p) (candidate-positive e m q) (candidate-positive e n r) before not_before

before-asymmetric : (e : ℕ) (l m : List ℤ × ℕ) → comes_before e l m ≡ true → comes_before e m l ≡ false
before-asymmetric e l m h = precedes-asymmetric (constant_of l.0 *ℤ at m.0 e) (constant_of m.0 *ℤ at l.0 e) l.1 m.1 h

before-irreflexive : (e : ℕ) (l : List ℤ × ℕ) → comes_before e l l ≡ false
before-irreflexive e l = precedes-irreflexive (constant_of l.0 *ℤ at l.0 e) l.1

-- the best of the first i lines: none of them is a candidate, or a candidate that none of them comes before, and that comes before each earlier one
abbrev pub IsBest : ℕ → List (List ℤ × ℕ) → ℕ → Option ℕ → Type 0
IsBest e lines i None = (j : ℕ) → j < i → is_candidate e (line_at lines j) ≡ false
IsBest e lines i (Some b) =
    (b < i) × (is_candidate e (line_at lines b) ≡ true)
    × ((j : ℕ) → j < i → is_candidate e (line_at lines j) ≡ true → comes_before e (line_at lines j) (line_at lines b) ≡ false)
    × ((j : ℕ) → j < b → is_candidate e (line_at lines j) ≡ true → comes_before e (line_at lines b) (line_at lines j) ≡ true)

both_not : (t : Bool) → t ≡ true → t ≡ false → ⊥
both_not t p q = absurd cc

pub best-better : (e : ℕ) (lines : List (List ℤ × ℕ)) (i : ℕ) (best : Option ℕ) → IsBest e lines i best → is_better e lines best i ≡ true
    → IsBest e lines (i + 1) (Some i)
best-better e lines i None was h = (omega arith, h, beaten, (λ j l c. absurd (both_not (is_candidate e (line_at lines j)) c (was j l))))
  where
    beaten : (j : ℕ) → j < i + 1 → is_candidate e (line_at lines j) ≡ true → comes_before e (line_at lines j) (line_at lines i) ≡ false
    beaten j l c = elim (cases_lt j i) [
      | inl less ↦ absurd (both_not (is_candidate e (line_at lines j)) c (was j less))
      | inr here ↦
          let same : j ≡ i = omega arith in
          ap (λ k. comes_before e (line_at lines k) (line_at lines i)) same ∙ before-irreflexive e (line_at lines i)
    ]
best-better e lines i (Some b) was h =
    let both = and_parts (is_candidate e (line_at lines i)) (comes_before e (line_at lines i) (line_at lines b)) h in
    let ahead : (j : ℕ) → j < i → is_candidate e (line_at lines j) ≡ true → comes_before e (line_at lines i) (line_at lines j) ≡ true =
    λ j l c. before-cotransitive e (line_at lines i) (line_at lines b) (line_at lines j) both.0 was.1 c both.1 (was.2 j l c) in
    (omega arith, both.0, beaten ahead, ahead)
  where
    beaten : ((j : ℕ) → j < i → is_candidate e (line_at lines j) ≡ true → comes_before e (line_at lines i) (line_at lines j) ≡ true)
        → (j : ℕ) → j < i + 1 → is_candidate e (line_at lines j) ≡ true → comes_before e (line_at lines j) (line_at lines i) ≡ false
    beaten ahead j l c = elim (cases_lt j i) [
      | inl less ↦ before-asymmetric e (line_at lines i) (line_at lines j) (ahead j less c)
      | inr here ↦
          let same : j ≡ i = omega arith in
          ap (λ k. comes_before e (line_at lines k) (line_at lines i)) same ∙ before-irreflexive e (line_at lines i)
    ]

pub best-same : (e : ℕ) (lines : List (List ℤ × ℕ)) (i : ℕ) (best : Option ℕ) → IsBest e lines i best → is_better e lines best i ≡ false
    → IsBest e lines (i + 1) best
best-same e lines i None was h = λ j l. elim (cases_lt j i) [
  | inl less ↦ was j less
  | inr here ↦ let same : j ≡ i = omega arith in ap (λ k. is_candidate e (line_at lines k)) same ∙ h
]
best-same e lines i (Some b) was h = (let less = was.0 in omega arith, was.1, beaten, was.3)
  where
    beaten : (j : ℕ) → j < i + 1 → is_candidate e (line_at lines j) ≡ true → comes_before e (line_at lines j) (line_at lines b) ≡ false
    beaten j l c = elim (cases_lt j i) [
      | inl less ↦ was.2 j less c
      | inr here ↦
          let same : j ≡ i = omega arith in
          let chosen : is_candidate e (line_at lines i) ≡ true = ap (λ k. is_candidate e (line_at lines k)) (sym same) ∙ c in
          ap (λ k. comes_before e (line_at lines k) (line_at lines b)) same
          ∙ ap (λ t. t && comes_before e (line_at lines i) (line_at lines b)) (sym chosen) ∙ h
    ]

-- the best of all is the pivot row
abbrev enters : ℕ → List (List ℤ × ℕ) → List ℤ × ℕ → Bool
enters e lines l = is_candidate e l && is_unbeaten e lines l

pub best-all : (e : ℕ) (lines : List (List ℤ × ℕ)) (best : Option ℕ) → IsBest e lines (length lines) best → best ≡ position (enters e lines) lines
best-all e lines None was =
    let place = position_or_len_is (enters e lines) lines (length lines) ([], 0) (omega arith)
    (λ k l. and_left (is_candidate e (line_at lines k)) (is_unbeaten e lines (line_at lines k)) (was k l)) (λ l. absurd (omega arith)) in
    sym (ap (λ b. cond b (Some (position_or_len (enters e lines) lines)) None) (le-ltb (position_or_len (enters e lines) lines) (length lines) (omega arith)))
best-all e lines (Some b) was =
    let place = position_or_len_is (enters e lines) lines b ([], 0) (let less = was.0 in omega arith) earlier (λ l. here) in
    sym (ap (λ t. cond t (Some (position_or_len (enters e lines) lines)) None) (lt-ltb (position_or_len (enters e lines) lines) (length lines) (let less = was.0 in omega arith))
    ∙ ap Some place)
  where
    not_both : (s t : Bool) → (s ≡ true → t ≡ false) → not (s && t) ≡ true
    not_both false t h = refl
    not_both true t h = ap not (h refl)

    here : enters e lines (line_at lines b) ≡ true
    here = ap₂ (λ s t. s && t) was.1
        (list_all-from_AllPass (λ m. not (is_candidate e m && comes_before e m (line_at lines b))) lines
        (All-from_get_or (λ m. not (is_candidate e m && comes_before e m (line_at lines b)) ≡ true) lines ([], 0)
        (λ k l. not_both (is_candidate e (line_at lines k)) (comes_before e (line_at lines k) (line_at lines b)) (was.2 k l))))

    earlier : (k : ℕ) → k < b → enters e lines (line_at lines k) ≡ false
    earlier k l = go (is_candidate e (line_at lines k)) refl
      where
        go : (t : Bool) → is_candidate e (line_at lines k) ≡ t → (t && is_unbeaten e lines (line_at lines k)) ≡ false
        go false is = refl
        go true is =
            list_all_at (λ m. not (is_candidate e m && comes_before e m (line_at lines k))) lines b ([], 0) was.0
            (ap₂ (λ s t. not (s && t)) was.1 (was.3 k l is))

-- a line is a row and its basic column
pub line-is : (rows : List (List ℤ)) (basics : List ℕ) (i : ℕ) (row : List ℤ) → i < length rows → length basics ≡ length rows → row ≡ get_or rows i row
    → line_at (zip rows basics) i ≡ (row, get_or basics i 0)
line-is rows basics i row within same is =
    get_or-zip rows basics i ([], 0) within (omega arith) ∙ ap (λ r. (r, get_or basics i 0)) (get_or_default rows i [] row within ∙ sym is)
