-- Lists of values that are put together one by one.
use Rattle.std.proofs.Common.{◌≡◌, ℕ, ◌+◌, ◌<◌, ◌≤◌, List, [], ◌∷◌, ◌++◌, length, map, drop, get_or, append-nil, refl, sym, ap, ◌∙◌}
use Rattle.std.proofs.lemmas.List.{drop_all, drop_more}

-- one value more, after those of the items before it
one_more : {D : Type 0} (ds : List D) (d : D) (rest : List D) → (ds ++ d ∷ []) ++ rest ≡ ds ++ d ∷ rest
one_more [] d rest = refl
one_more (c ∷ ds) d rest = ap (λ l. c ∷ l) (one_more ds d rest)

seen_more : {X D : Type 0} (f : X → D) (xs : List X) (x : X) → map f (xs ++ x ∷ []) ≡ map f xs ++ f x ∷ []
seen_more f [] x = refl
seen_more f (y ∷ xs) x = ap (λ l. f y ∷ l) (seen_more f xs x)

pub pushed : {X Y D : Type 0} (f : X → D) (g : Y → D) (xs new : List X) (x : X) (ys : List Y) (i : ℕ) (y : Y) → i < length ys
    → y ≡ get_or ys i y → f x ≡ g y → new ≡ xs ++ x ∷ [] → map f xs ++ map g (drop i ys) ≡ map g ys
    → map f new ++ map g (drop (i + 1) ys) ≡ map g ys
pushed f g xs new x ys i y below here same is before =
    ap (λ l. map f l ++ map g (drop (i + 1) ys)) is
    ∙ ap (λ l. l ++ map g (drop (i + 1) ys)) (seen_more f xs x)
    ∙ one_more (map f xs) (f x) (map g (drop (i + 1) ys))
    ∙ ap (λ d. map f xs ++ d ∷ map g (drop (i + 1) ys)) (same ∙ ap g here)
    ∙ ap (λ l. map f xs ++ map g l) (sym (drop_more ys i y below))
    ∙ before

-- no value was put yet
pub none_pushed : {X Y D : Type 0} (f : X → D) (g : Y → D) (xs : List X) (ys : List Y) → xs ≡ [] → map f xs ++ map g (drop 0 ys) ≡ map g ys
none_pushed f g xs ys none = ap (λ l. map f l ++ map g ys) none

-- the values of all items, once none is left
pub all_pushed : {X Y D : Type 0} (f : X → D) (g : Y → D) (xs : List X) (ys : List Y) (i : ℕ) → length ys ≤ i
    → map f xs ++ map g (drop i ys) ≡ map g ys → map f xs ≡ map g ys
all_pushed f g xs ys i past before =
    sym (append-nil (map f xs)) ∙ ap (λ l. map f xs ++ map g l) (sym (drop_all i ys past)) ∙ before
