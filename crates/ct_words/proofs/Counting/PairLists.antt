-- Sums of products over the lists of k ordered pairs, one pair at a time.
use Rattle.std.proofs.Common.{◌≡◌, ℕ, zero, suc, List, [], ◌∷◌, map, refl, sym, ap, ◌∙◌}
use Rattle.std.specs.Prelude.{ℤ, pos, ◌+ℤ◌, ◌*ℤ◌}
use Rattle.std.specs.List.{flat_map}
use Rattle.ct_words.specs.Counting.Sums.{total}
use Rattle.ct_words.specs.Counting.PairLists.{picks, pair_lists, product}
use Rattle.ct_words.proofs.Counting.Totals.{total-map, total-congruence, total-scale}
use Rattle.ct_words.proofs.Counting.PartTotals.{total-flat_map}
use Rattle.ct_words.proofs.Counting.Products.{int_mul_assoc, int_mul_comm}

-- four factors, the middle two exchanged
exchange : (a b c d : ℤ) → (a *ℤ c) *ℤ (b *ℤ d) ≡ (a *ℤ b) *ℤ (c *ℤ d)
exchange a b c d =
    int_mul_assoc a c (b *ℤ d)
    ∙ ap (λ z. a *ℤ z) (sym (int_mul_assoc c b d) ∙ ap (λ z. z *ℤ d) (int_mul_comm c b) ∙ int_mul_assoc b c d)
    ∙ sym (int_mul_assoc a b (c *ℤ d))

-- the product of two products over a list
pub product-mul : {X : Type 0} (f g : X → ℤ) (xs : List X) → product f xs *ℤ product g xs ≡ product (λ x. f x *ℤ g x) xs
product-mul f g [] = refl
product-mul f g (x ∷ xs) = exchange (f x) (g x) (product f xs) (product g xs) ∙ ap (λ z. (f x *ℤ g x) *ℤ z) (product-mul f g xs)

-- the sum over all lists of k ordered pairs, of the product of the weights of the pairs, one pair at a time
abbrev pub pair_list_total : {X : Type 0} → (X → X → ℤ) → ℕ → List X → ℤ
pair_list_total h zero xs = pos 1
pair_list_total h (suc k) xs = total (λ p. total (λ q. h p.0 q.0 *ℤ pair_list_total h k q.1) (picks p.1)) (picks xs)

-- so are the lists of pairs made
pub total-pair_lists : {X : Type 0} (h : X → X → ℤ) (k : ℕ) (xs : List X) → total (λ pairs. product (λ p. h p.0 p.1) pairs) (pair_lists k xs) ≡ pair_list_total h k xs
total-pair_lists h zero xs = refl
total-pair_lists {X} h (suc k) xs =
    let weight : List (X × X) → ℤ = λ pairs. product (λ p. h p.0 p.1) pairs in
    let second : X → X × List X → List (List (X × X)) = λ a q. map (λ pairs. (a, q.0) ∷ pairs) (pair_lists k q.1) in
    let first : X × List X → List (List (X × X)) = λ p. flat_map (second p.0) (picks p.1) in
    let longer : (a : X) (q : X × List X) → total weight (second a q) ≡ h a q.0 *ℤ pair_list_total h k q.1 =
    λ a q.
    total-map weight (λ pairs. (a, q.0) ∷ pairs) (pair_lists k q.1)
    ∙ total-scale (h a q.0) weight (pair_lists k q.1)
    ∙ ap (λ z. h a q.0 *ℤ z) (total-pair_lists h k q.1) in
    total-flat_map weight first (picks xs)
    ∙ total-congruence (λ p. total weight (first p)) (λ p. total (λ q. h p.0 q.0 *ℤ pair_list_total h k q.1) (picks p.1)) (picks xs)
    (λ p.
    total-flat_map weight (second p.0) (picks p.1)
    ∙ total-congruence (λ q. total weight (second p.0 q)) (λ q. h p.0 q.0 *ℤ pair_list_total h k q.1) (picks p.1) (longer p.0))

-- what is taken out is each element once
pub total-picks : {X : Type 0} (f : X → ℤ) (xs : List X) → total (λ p. f p.0) (picks xs) ≡ total f xs
total-picks f [] = refl
total-picks {X} f (x ∷ xs) =
    let longer : X × List X → X × List X = λ p. (p.0, x ∷ p.1) in
    ap (λ z. f x +ℤ z) (total-map (λ p. f p.0) longer (picks xs) ∙ total-picks f xs)
