-- Rows are put in order by the quotients of two numbers, by cross products, and then by their basic columns.
use Rattle.std.proofs.Common.{◌≡◌, ℕ, ◌<◌, ◌≤◌, Bool, true, false, ◌&&◌, ◌||◌, refl, ap, ◌∙◌, arith, inl, inr}
use Rattle.std.specs.Prelude.{ℤ, pos, ◌*ℤ◌, ◌-ℤ◌, ◌≤ℤ◌, ◌<ℤ◌, int_lt, int_le, nat_lt, ◌⊎◌}
use Rattle.std.proofs.lemmas.Int.{ints, by_lt_z}
use Rattle.std.proofs.lemmas.Bool.{ltb-true, ltb-false, lt-ltb}
use Rattle.ct_words.proofs.Counting.Products.{int_mul_assoc, int_mul_comm}
use Rattle.ct_words.proofs.Counting.Combinations.{product-nonneg}
use Rattle.ct_finder.proofs.Crossed.{int_sub_mul, positive-mul}

-- products with a positive number keep the order
scaled-le : (a b c : ℤ) → a ≤ℤ b → pos 1 ≤ℤ c → (a *ℤ c) ≤ℤ (b *ℤ c)
scaled-le a b c h some =
    let product = product-nonneg (b -ℤ a) c (omega (arith, ints)) (omega (arith, ints)) in
    let whole = int_sub_mul b a c in
    omega (arith, ints)

scaled-lt : (a b c : ℤ) → a <ℤ b → pos 1 ≤ℤ c → (a *ℤ c) <ℤ (b *ℤ c)
scaled-lt a b c h some =
    let product = positive-mul (b -ℤ a) c (omega (arith, ints)) some in
    let whole = int_sub_mul b a c in
    omega (arith, ints)

unscaled-le : (a b c : ℤ) → (a *ℤ c) ≤ℤ (b *ℤ c) → pos 1 ≤ℤ c → a ≤ℤ b
unscaled-le a b c h some = by_lt_z b a (λ less. absurd (let e = scaled-lt b a c less some in omega (arith, ints))) (λ within. within)

unscaled-lt : (a b c : ℤ) → (a *ℤ c) <ℤ (b *ℤ c) → pos 1 ≤ℤ c → a <ℤ b
unscaled-lt a b c h some = by_lt_z a b (λ less. less) (λ within. absurd (let e = scaled-le b a c within some in omega (arith, ints)))

-- the order of x/y and x'/y' with y and y' positive: l is x · y' and r is x' · y
abbrev pub precedes : ℤ → ℤ → ℕ → ℕ → Bool
precedes l r k m = int_lt l r || (int_le l r && nat_lt k m)

-- what it says
pub precedes-means : (l r : ℤ) (k m : ℕ) → precedes l r k m ≡ true → (l <ℤ r) ⊎ ((l ≤ℤ r) × (k < m))
precedes-means l r k m h = by_lt_z l r (λ less. inl less) (λ within. inr (go (int_lt l r) (int_le l r) (nat_lt k m) refl refl refl h within))
  where
    go : (a b c : Bool) → int_lt l r ≡ a → int_le l r ≡ b → nat_lt k m ≡ c → (a || (b && c)) ≡ true → r ≤ℤ l → (l ≤ℤ r) × (k < m)
    go true b c p q t h within = absurd (let e : int_lt l r ≡ false = grind (arith, ints) in cc)
    go false true true p q t h within = (grind (arith, ints), ltb-true k m t)
    go false true false p q t h within = absurd cc
    go false false c p q t h within = absurd cc

pub precedes-less : (l r : ℤ) (k m : ℕ) → l <ℤ r → precedes l r k m ≡ true
precedes-less l r k m h = let e : int_lt l r ≡ true = grind (arith, ints) in ap (λ b. b || (int_le l r && nat_lt k m)) e

pub precedes-equal : (l r : ℤ) (k m : ℕ) → l ≤ℤ r → k < m → precedes l r k m ≡ true
precedes-equal l r k m h less = go (int_lt l r)
  where
    both : (int_le l r && nat_lt k m) ≡ true
    both = let e : int_le l r ≡ true = grind (arith, ints) in ap (λ b. b && nat_lt k m) e ∙ lt-ltb k m less

    go : (a : Bool) → (a || (int_le l r && nat_lt k m)) ≡ true
    go true = refl
    go false = both

pub not_precedes-means : (l r : ℤ) (k m : ℕ) → precedes l r k m ≡ false → (r ≤ℤ l) × (l ≤ℤ r → m ≤ k)
not_precedes-means l r k m h = go (int_lt l r) (int_le l r) (nat_lt k m) refl refl refl h
  where
    go : (a b c : Bool) → int_lt l r ≡ a → int_le l r ≡ b → nat_lt k m ≡ c → (a || (b && c)) ≡ false → (r ≤ℤ l) × (l ≤ℤ r → m ≤ k)
    go true b c p q t h = absurd cc
    go false true true p q t h = absurd cc
    go false true false p q t h = (grind (arith, ints), λ _. ltb-false k m t)
    go false false c p q t h = (grind (arith, ints), λ within. absurd (let e : int_le l r ≡ true = grind (arith, ints) in cc))

pub not_precedes-from : (l r : ℤ) (k m : ℕ) → r ≤ℤ l → (l ≤ℤ r → m ≤ k) → precedes l r k m ≡ false
not_precedes-from l r k m h ties = go (precedes l r k m) refl
  where
    go : (t : Bool) → precedes l r k m ≡ t → t ≡ false
    go false is = refl
    go true is = elim (precedes-means l r k m is) [
      | inl less ↦ absurd (omega (arith, ints))
      | inr both ↦ absurd (let order = ties both.0 in let other = both.1 in omega arith)
    ]

-- what comes before one that another doesn't come before, comes before the other
pub precedes-cotransitive : (x y x' y' x'' y'' : ℤ) (k k' k'' : ℕ) → pos 1 ≤ℤ y → pos 1 ≤ℤ y' → pos 1 ≤ℤ y''
    → precedes (x *ℤ y') (x' *ℤ y) k k' ≡ true → precedes (x'' *ℤ y') (x' *ℤ y'') k'' k' ≡ false
    → precedes (x *ℤ y'') (x'' *ℤ y) k k'' ≡ true
precedes-cotransitive x y x' y' x'' y'' k k' k'' some some' some'' before not_before =
    let other = not_precedes-means (x'' *ℤ y') (x' *ℤ y'') k'' k' not_before in
    let first = int_mul_assoc x y' y'' in
    let first' = int_mul_assoc x y'' y' in
    let swap = ap (λ z. x *ℤ z) (int_mul_comm y' y'') in
    let second = int_mul_assoc x' y y'' in
    let second' = int_mul_assoc x' y'' y in
    let swap' = ap (λ z. x' *ℤ z) (int_mul_comm y y'') in
    let third = int_mul_assoc x'' y' y in
    let third' = int_mul_assoc x'' y y' in
    let swap'' = ap (λ z. x'' *ℤ z) (int_mul_comm y' y) in
    let over = scaled-le (x' *ℤ y'') (x'' *ℤ y') y other.0 some in
    elim (precedes-means (x *ℤ y') (x' *ℤ y) k k' before) [
      | inl less ↦
          let under = scaled-lt (x *ℤ y') (x' *ℤ y) y'' less some'' in
          precedes-less (x *ℤ y'') (x'' *ℤ y) k k'' (unscaled-lt (x *ℤ y'') (x'' *ℤ y) y' (omega (arith, ints)) some')
      | inr both ↦
          let under = scaled-le (x *ℤ y') (x' *ℤ y) y'' both.0 some'' in
          by_lt_z (x' *ℤ y'') (x'' *ℤ y')
          (λ less.
          let strict = scaled-lt (x' *ℤ y'') (x'' *ℤ y') y less some in
          precedes-less (x *ℤ y'') (x'' *ℤ y) k k'' (unscaled-lt (x *ℤ y'') (x'' *ℤ y) y' (omega (arith, ints)) some'))
          (λ within.
          let order = other.1 within in
          let earlier = both.1 in
          precedes-equal (x *ℤ y'') (x'' *ℤ y) k k'' (unscaled-le (x *ℤ y'') (x'' *ℤ y) y' (omega (arith, ints)) some') (omega arith))
    ]

-- two never come before each other
pub precedes-asymmetric : (l r : ℤ) (k m : ℕ) → precedes l r k m ≡ true → precedes r l m k ≡ false
precedes-asymmetric l r k m h = elim (precedes-means l r k m h) [
  | inl less ↦ not_precedes-from r l m k (omega (arith, ints)) (λ within. absurd (omega (arith, ints)))
  | inr both ↦ not_precedes-from r l m k both.0 (λ _. let less = both.1 in omega arith)
]

pub precedes-irreflexive : (l : ℤ) (k : ℕ) → precedes l l k k ≡ false
precedes-irreflexive l k = not_precedes-from l l k k (omega (arith, ints)) (λ _. omega arith)
