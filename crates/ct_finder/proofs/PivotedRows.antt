-- The rows after a pivot, one after the other.
use Rattle.std.proofs.Common.{◌≡◌, ℕ, ◌+◌, ◌<◌, false, cond, List, [], ◌∷◌, ◌++◌, map, set, length, get_or, take, drop, refl, sym, ap, ap₂, ◌∙◌, arith, append-nil}
use Rattle.std.specs.Prelude.{find, flat_map, ℤ, Some, None, ◌≢◌}
use Rattle.std.specs.Option.{option_or}
use Rattle.std.proofs.lemmas.List.{take_more, drop_more, length-map, length-set, get_or-map, get_or-set_same, get_or-set_other, take-append-drop, set-get_or}
use Rattle.std.proofs.lemmas.List.Elements.{All-head, All-tail}
use Rattle.std.proofs.lemmas.List.Folds.{find-append}
use Rattle.std.proofs.lemmas.Grind.{flat_map-append}
use Rattle.ct_finder.specs.Pivot.{is_wide, pivoted_row}
use Rattle.ct_finder.specs.Narrow.{AreNarrow}
use Rattle.ct_finder.proofs.Written.{IsWritten, written-more}

abbrev pub targets : ℕ → List ℤ → ℕ → List (List ℤ) → List (List ℤ)
targets e pivot place rows = set (map (pivoted_row e pivot) rows) place pivot

pub length-targets : (e : ℕ) (pivot : List ℤ) (place : ℕ) (rows : List (List ℤ)) → length (targets e pivot place rows) ≡ length rows
length-targets e pivot place rows = simp (length-set, length-map)

pub target-own : (e : ℕ) (pivot : List ℤ) (place : ℕ) (rows : List (List ℤ)) → place < length rows → get_or (targets e pivot place rows) place [] ≡ pivot
target-own e pivot place rows within =
    let count = length-map rows (pivoted_row e pivot) in
    get_or-set_same (map (pivoted_row e pivot) rows) place pivot [] (omega arith)

pub target-other : (e : ℕ) (pivot : List ℤ) (place i : ℕ) (rows : List (List ℤ)) → i < length rows → i ≢ place
    → get_or (targets e pivot place rows) i [] ≡ pivoted_row e pivot (get_or rows i [])
target-other e pivot place i rows within other =
    get_or-set_other (map (pivoted_row e pivot) rows) place i pivot [] other ∙ get_or-map (pivoted_row e pivot) rows i [] [] within

-- no narrow row has a wide entry
pub find-narrow : (row : List ℤ) → AreNarrow row → find is_wide row ≡ None
find-narrow [] h = refl
find-narrow (z ∷ row) h =
    ap (λ b. cond b (Some z) (find is_wide row)) (All-head (λ y. is_wide y ≡ false) z row h) ∙ find-narrow row (All-tail (λ y. is_wide y ≡ false) z row h)

-- one row more without a wide entry, and one with
pub find-row_more : (rows : List (List ℤ)) (i : ℕ) → i < length rows → find is_wide (flat_map (λ row. row) (take i rows)) ≡ None
    → find is_wide (get_or rows i []) ≡ None → find is_wide (flat_map (λ row. row) (take (i + 1) rows)) ≡ None
find-row_more rows i within none here =
    ap (λ rs. find is_wide (flat_map (λ row. row) rs)) (take_more rows i [] within)
    ∙ ap (find is_wide) (flat_map-append (λ row. row) (take i rows) (get_or rows i [] ∷ []))
    ∙ find-append is_wide (flat_map (λ row. row) (take i rows)) (get_or rows i [] ++ [])
    ∙ ap₂ option_or none (ap (find is_wide) (append-nil (get_or rows i [])) ∙ here)

pub find-row_here : (rows : List (List ℤ)) (i : ℕ) (x : ℤ) → i < length rows → find is_wide (flat_map (λ row. row) (take i rows)) ≡ None
    → find is_wide (get_or rows i []) ≡ Some x → find is_wide (flat_map (λ row. row) rows) ≡ Some x
find-row_here rows i x within none here =
    ap (λ rs. find is_wide (flat_map (λ row. row) rs)) (sym (take-append-drop i rows))
    ∙ ap (find is_wide) (flat_map-append (λ row. row) (take i rows) (drop i rows))
    ∙ find-append is_wide (flat_map (λ row. row) (take i rows)) (flat_map (λ row. row) (drop i rows))
    ∙ ap₂ option_or none
    (ap (λ rs. find is_wide (flat_map (λ row. row) rs)) (drop_more rows i [] within)
    ∙ find-append is_wide (get_or rows i []) (flat_map (λ row. row) (drop (i + 1) rows))
    ∙ ap (λ o. option_or o (find is_wide (flat_map (λ row. row) (drop (i + 1) rows)))) here)

-- the pivot row stays as it is
pub written-own : (ts from now : List (List ℤ)) (i : ℕ) → i < length now → i < length ts → get_or now i [] ≡ get_or ts i [] → IsWritten ts from now i
    → IsWritten ts from now (i + 1)
written-own ts from now i here there same w =
    let next = written-more ts from now i (get_or now i []) [] here there same w in
    let kept = set-get_or now i [] in
    record {
      front = ap (take (i + 1)) (sym kept) ∙ next.front;
      rest = ap (drop (i + 1)) (sym kept) ∙ next.rest;
    }
