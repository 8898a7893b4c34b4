-- The texts of items that are put at the end of a text, one after the other.
use Rattle.std.proofs.Common.{◌≡◌, ℕ, ◌+◌, ◌<◌, List, [], ◌∷◌, ◌++◌, length, take, get_or, append_assoc, append-nil, sym, ap, ◌∙◌}
use Rattle.std.specs.List.{flat_map}
use Rattle.std.proofs.lemmas.Grind.{flat_map-append}
use Rattle.std.proofs.lemmas.List.{take_more}

-- the texts of one item more
one-more : {X : Type 0} (f : X → List ℕ) (xs : List X) (i : ℕ) (x : X) → i < length xs → x ≡ get_or xs i x
    → flat_map f (take i xs) ++ f x ≡ flat_map f (take (i + 1) xs)
one-more {X} f xs i x within is =
    ap (λ (t : List ℕ). flat_map f (take i xs) ++ t) (sym (append-nil (f x)))
    ∙ sym (flat_map-append f (take i xs) (x ∷ []))
    ∙ ap (λ (y : X). flat_map f (take i xs ++ y ∷ [])) is
    ∙ ap (λ (ys : List X). flat_map f ys) (sym (take_more xs i x within))

-- the text of an item is put after those before it
pub puts-item : {X : Type 0} (f : X → List ℕ) (xs : List X) (i : ℕ) (x : X) (text before new : List ℕ) → i < length xs → x ≡ get_or xs i x
    → before ≡ text ++ flat_map f (take i xs) → new ≡ before ++ f x → new ≡ text ++ flat_map f (take (i + 1) xs)
puts-item {X} f xs i x text before new within is before-is new-is =
    new-is ∙ ap (λ (l : List ℕ). l ++ f x) before-is ∙ append_assoc text (flat_map f (take i xs)) (f x)
    ∙ ap (λ (l : List ℕ). text ++ l) (one-more f xs i x within is)
