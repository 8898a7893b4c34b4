-- The numbers of a range that pass a test, one number more.
use Rattle.std.proofs.Common.{◌≡◌, ℕ, zero, suc, ◌+◌, Bool, true, false, cond, List, [], ◌∷◌, ◌++◌, sym, ap, ◌∙◌, arith, append-nil}
use Rattle.std.specs.Prelude.{filter}
use Rattle.std.specs.List.{range_with_len}

filter_range-more : (p : ℕ → Bool) (a n j : ℕ) → a + n ≡ j
    → filter p (range_with_len a (suc n)) ≡ filter p (range_with_len a n) ++ cond (p j) (j ∷ []) []
filter_range-more p a zero j here = ap (λ k. cond (p k) (k ∷ []) []) (let same : a ≡ j = omega arith in same)
filter_range-more p a (suc n) j here = go (p a) (filter_range-more p (a + 1) n j (omega arith))
  where
    front : List ℕ
    front = filter p (range_with_len (a + 1) n)

    go : (t : Bool) → filter p (range_with_len (a + 1) (suc n)) ≡ front ++ cond (p j) (j ∷ []) []
        → cond t (a ∷ filter p (range_with_len (a + 1) (suc n))) (filter p (range_with_len (a + 1) (suc n)))
        ≡ cond t (a ∷ front) front ++ cond (p j) (j ∷ []) []
    go true ih = ap (λ xs. a ∷ xs) ih
    go false ih = ih

-- where it passes, and where it does not
pub filter_range-more_yes : (p : ℕ → Bool) (i : ℕ) → p i ≡ true → filter p (range_with_len 0 i) ++ i ∷ [] ≡ filter p (range_with_len 0 (i + 1))
filter_range-more_yes p i passes =
    let next : i + 1 ≡ suc i = omega arith in
    ap (λ t. filter p (range_with_len 0 i) ++ cond t (i ∷ []) []) (sym passes)
    ∙ sym (filter_range-more p 0 i i (omega arith)) ∙ ap (λ k. filter p (range_with_len 0 k)) (sym next)

pub filter_range-more_no : (p : ℕ → Bool) (i : ℕ) → p i ≡ false → filter p (range_with_len 0 i) ≡ filter p (range_with_len 0 (i + 1))
filter_range-more_no p i fails =
    let next : i + 1 ≡ suc i = omega arith in
    sym (append-nil (filter p (range_with_len 0 i)))
    ∙ ap (λ t. filter p (range_with_len 0 i) ++ cond t (i ∷ []) []) (sym fails)
    ∙ sym (filter_range-more p 0 i i (omega arith)) ∙ ap (λ k. filter p (range_with_len 0 k)) (sym next)
