-- Lists that are written over from the front on, and the first element that passes a test.
use Rattle.std.proofs.Common.{◌≡◌, ℕ, ◌+◌, ◌<◌, ◌≤◌, Bool, true, false, cond, List, [], ◌∷◌, ◌++◌, length, get_or, take, drop, set, refl, sym, ap, ap₂, ◌∙◌, arith, take_all}
use Rattle.std.specs.Prelude.{find, Some, None}
use Rattle.std.specs.Option.{option_or}
use Rattle.std.proofs.lemmas.List.{take_more, take_more_set, drop_more, drop-set-lt, get_or-drop, take-append-drop}
use Rattle.std.proofs.lemmas.List.Folds.{find-append}
use Rattle.std.proofs.lemmas.Grind.{drop_more_same}

-- the first j elements are those of `targets`, the others those that were there
pub record IsWritten {X : Type 0} (targets from now : List X) (j : ℕ) : Type 0 where
  pub front : take j now ≡ take j targets
  pub rest : drop j now ≡ drop j from

pub written-start : {X : Type 0} (targets from : List X) → IsWritten targets from from 0
written-start targets from = record { front = refl; rest = refl }

pub written-more : {X : Type 0} (targets from now : List X) (j : ℕ) (y d : X) → j < length now → j < length targets → y ≡ get_or targets j d
    → IsWritten targets from now j → IsWritten targets from (set now j y) (j + 1)
written-more targets from now j y d here there is w = record {
  front = take_more_set now j y here ∙ ap₂ (λ xs x. xs ++ x ∷ []) w.front is ∙ sym (take_more targets j d there);
  rest = drop-set-lt (j + 1) now j y (omega arith) ∙ drop_more_same now from j w.rest;
}

pub written-end : {X : Type 0} (targets from now : List X) (j : ℕ) → length now ≤ j → length targets ≤ j → IsWritten targets from now j → now ≡ targets
written-end targets from now j here there w = sym (take_all j now here) ∙ w.front ∙ take_all j targets there

pub written-at : {X : Type 0} (targets from now : List X) (j : ℕ) (d : X) → IsWritten targets from now j → get_or now j d ≡ get_or from j d
written-at targets from now j d w =
    let place : j + 0 ≡ j = omega arith in
    sym (get_or-drop j now 0 d ∙ ap (λ i. get_or now i d) place) ∙ ap (λ xs. get_or xs 0 d) w.rest ∙ get_or-drop j from 0 d ∙ ap (λ i. get_or from i d) place

-- one element more that fails, and one that passes
pub find-more : {X : Type 0} (p : X → Bool) (xs : List X) (j : ℕ) (d : X) → j < length xs → find p (take j xs) ≡ None → p (get_or xs j d) ≡ false
    → find p (take (j + 1) xs) ≡ None
find-more p xs j d within none fails =
    ap (find p) (take_more xs j d within) ∙ find-append p (take j xs) (get_or xs j d ∷ [])
    ∙ ap₂ option_or none (ap (λ b. cond b (Some (get_or xs j d)) None) fails)

pub find-here : {X : Type 0} (p : X → Bool) (xs : List X) (j : ℕ) (d : X) → j < length xs → find p (take j xs) ≡ None → p (get_or xs j d) ≡ true
    → find p xs ≡ Some (get_or xs j d)
find-here p xs j d within none passes =
    ap (find p) (sym (take-append-drop j xs)) ∙ find-append p (take j xs) (drop j xs)
    ∙ ap₂ option_or none
    (ap (find p) (drop_more xs j d within) ∙ ap (λ b. cond b (Some (get_or xs j d)) (find p (drop (j + 1) xs))) passes)
