-- The lesser of the numbers at each place of two lists, one place after the other.
use Rattle.std.proofs.Common.{◌≡◌, ℕ, zero, suc, ◌+◌, ◌<◌, List, [], ◌∷◌, ◌++◌, length, take, get_or, min, refl, sym, ap, ◌∙◌, arith}
use Rattle.std.specs.Prelude.{slice_set}
use Rattle.std.proofs.lemmas.List.{take_more_set}
use Rattle.ct_rule_parts.specs.Local.{lesser}

-- one more place of both
lesser-more : (us vs : List ℕ) (k : ℕ) → k < length us → k < length vs
    → lesser (take (suc k) us) (take (suc k) vs) ≡ lesser (take k us) (take k vs) ++ min (get_or us k 0) (get_or vs k 0) ∷ []
lesser-more [] vs k short long = absurd (omega arith)
lesser-more (u ∷ us) [] k short long = absurd (omega arith)
lesser-more (u ∷ us) (v ∷ vs) zero short long = refl
lesser-more (u ∷ us) (v ∷ vs) (suc k) short long = ap (λ (ws : List ℕ). min u v ∷ ws) (lesser-more us vs k (omega arith) (omega arith))

-- put at its place
pub put_lesser-more : (us vs row : List ℕ) (k w : ℕ) → k < length us → k < length vs → k < length row → w ≡ min (get_or us k 0) (get_or vs k 0)
    → take k row ≡ lesser (take k us) (take k vs) → take (k + 1) (slice_set row k w) ≡ lesser (take (k + 1) us) (take (k + 1) vs)
put_lesser-more us vs row k w short long within is was =
    let next : k + 1 ≡ suc k = omega arith in
    take_more_set row k w within
    ∙ ap (λ ws. ws ++ w ∷ []) was
    ∙ ap (λ z. lesser (take k us) (take k vs) ++ z ∷ []) is
    ∙ sym (lesser-more us vs k short long)
    ∙ ap (λ j. lesser (take j us) (take j vs)) (sym next)

-- as far as both go they are all
pub lesser-all : (us vs : List ℕ) (k : ℕ) → k ≡ min (length us) (length vs) → lesser (take k us) (take k vs) ≡ lesser us vs
lesser-all [] vs zero is = refl
lesser-all [] vs (suc k) is = absurd (omega arith)
lesser-all (u ∷ us) [] zero is = refl
lesser-all (u ∷ us) [] (suc k) is = absurd (omega arith)
lesser-all (u ∷ us) (v ∷ vs) zero is = absurd (omega arith)
lesser-all (u ∷ us) (v ∷ vs) (suc k) is = ap (λ (ws : List ℕ). min u v ∷ ws) (lesser-all us vs k (omega arith))
