-- Numbers of which a multiple is p · y - r · z.
use Rattle.std.proofs.Common.{◌≡◌, ℕ, zero, suc, ◌<◌, ◌≤◌, ◌==◌, Bool, true, false, cond, refl, ap, ◌∙◌, arith, eqb-true, eq-eqb}
use Rattle.std.specs.Prelude.{ℤ, pos, negsuc, neg_ℤ, ◌+ℤ◌, ◌-ℤ◌, ◌*ℤ◌, ◌≤ℤ◌, unsigned_abs}
use Rattle.std.proofs.lemmas.Int.{ints, unsigned_abs-mul}
use Rattle.std.proofs.lemmas.Nat.{mul-le}
use Rattle.std.proofs.lemmas.Bool.{ne_eqb, eqb-false}
use Rattle.ct_words.specs.Counting.Alternating.{total_below}
use Rattle.ct_words.proofs.Counting.Totals.{int_dist}
use Rattle.ct_words.proofs.Counting.Products.{int_mul_assoc, int_mul_neg, int_neg_mul, int_dist_right}

-- a product with a difference
pub int_sub_mul : (a b c : ℤ) → (a -ℤ b) *ℤ c ≡ (a *ℤ c) -ℤ (b *ℤ c)
int_sub_mul a b c =
    let whole = int_dist_right a (neg_ℤ b) c in
    let part = int_neg_mul b c in
    omega (arith, ints)

pub int_mul_sub : (a b c : ℤ) → a *ℤ (b -ℤ c) ≡ (a *ℤ b) -ℤ (a *ℤ c)
int_mul_sub a b c =
    let whole = int_dist a b (neg_ℤ c) in
    let part = int_mul_neg a c in
    omega (arith, ints)

-- a positive factor can be dropped
pub int_cancel : (g : ℕ) (x y : ℤ) → 1 ≤ g → pos g *ℤ x ≡ pos g *ℤ y → x ≡ y
int_cancel g x y some h =
    let whole = int_mul_sub (pos g) x y in
    let size = unsigned_abs-mul (pos g) (x -ℤ y) in
    let none : pos g *ℤ (x -ℤ y) ≡ pos 0 = omega (arith, ints) in
    let none_of = ap unsigned_abs none in
    let less = mul-le 1 (unsigned_abs (x -ℤ y)) g (unsigned_abs (x -ℤ y)) some (omega arith) in
    let zero_of : unsigned_abs (x -ℤ y) ≡ 0 = omega arith in
    omega (arith, ints)

-- a product of positive numbers is positive, and a number of which a positive multiple is positive is so
pub positive-mul : (p y : ℤ) → pos 1 ≤ℤ p → pos 1 ≤ℤ y → pos 1 ≤ℤ (p *ℤ y)
positive-mul (pos m) (pos n) some more =
    let product = mul-le 1 1 m n (omega (arith, ints)) (omega (arith, ints)) in
    omega (arith, ints)
positive-mul (pos m) (negsuc n) some more = absurd (omega (arith, ints))
positive-mul (negsuc m) y some more = absurd (omega (arith, ints))

pub positive-from : (g : ℕ) (x : ℤ) → pos 1 ≤ℤ (pos g *ℤ x) → pos 1 ≤ℤ x
positive-from g (pos zero) h = absurd (omega (arith, ints))
positive-from g (pos (suc n)) h = omega (arith, ints)
positive-from g (negsuc n) h = absurd (omega (arith, ints))

-- the products of three numbers with a fourth
pub product-crossed : (g p r x y z w : ℤ) → g *ℤ x ≡ (p *ℤ y) -ℤ (r *ℤ z) → g *ℤ (x *ℤ w) ≡ (p *ℤ (y *ℤ w)) -ℤ (r *ℤ (z *ℤ w))
product-crossed g p r x y z w h =
    let a = int_mul_assoc g x w in
    let b = int_mul_assoc p y w in
    let c = int_mul_assoc r z w in
    let d = ap (λ v. v *ℤ w) h in
    let e = int_sub_mul (p *ℤ y) (r *ℤ z) w in
    omega (arith, ints)

-- sums of three numbers
pub sum-crossed : (g p r x y z x' y' z' : ℤ) → g *ℤ x ≡ (p *ℤ y) -ℤ (r *ℤ z) → g *ℤ x' ≡ (p *ℤ y') -ℤ (r *ℤ z')
    → g *ℤ (x +ℤ x') ≡ (p *ℤ (y +ℤ y')) -ℤ (r *ℤ (z +ℤ z'))
sum-crossed g p r x y z x' y' z' h h' =
    let a = int_dist g x x' in
    let b = int_dist p y y' in
    let c = int_dist r z z' in
    omega (arith, ints)

-- so it is with sums of products
pub total-crossed : (g p r : ℤ) (x y z w : ℕ → ℤ) (n : ℕ) → ((k : ℕ) → g *ℤ x k ≡ (p *ℤ y k) -ℤ (r *ℤ z k))
    → g *ℤ total_below (λ k. x k *ℤ w k) n ≡ (p *ℤ total_below (λ k. y k *ℤ w k) n) -ℤ (r *ℤ total_below (λ k. z k *ℤ w k) n)
total-crossed g p r x y z w zero h = omega (arith, ints)
total-crossed g p r x y z w (suc n) h =
    sum-crossed g p r
    (total_below (λ k. x k *ℤ w k) n) (total_below (λ k. y k *ℤ w k) n) (total_below (λ k. z k *ℤ w k) n)
    (x n *ℤ w n) (y n *ℤ w n) (z n *ℤ w n)
    (total-crossed g p r x y z w n h) (product-crossed g p r (x n) (y n) (z n) (w n) (h n))

-- numbers are the same where those after them are
pub same_suc : (k m : ℕ) → (suc k == suc m) ≡ (k == m)
same_suc k m = go (k == m) refl
  where
    go : (t : Bool) → (k == m) ≡ t → (suc k == suc m) ≡ t
    go true is = eq-eqb (suc k) (suc m) (ap suc (eqb-true k m is))
    go false is = ne_eqb (suc k) (suc m) (λ e. eqb-false k m is (omega arith))

-- a sum whose factors are all 0, and one in which one of them is 1
pub total-none : (x w : ℕ → ℤ) (n : ℕ) → ((k : ℕ) → k < n → x k ≡ pos 0) → total_below (λ k. x k *ℤ w k) n ≡ pos 0
total-none x w zero h = refl
total-none x w (suc n) h =
    let rest = total-none x w n (λ k l. h k (omega arith)) in
    let last = ap (λ v. v *ℤ w n) (h n (omega arith)) in
    omega (arith, ints)

pub total-one : (x w : ℕ → ℤ) (m n : ℕ) → m < n → ((k : ℕ) → k < n → x k ≡ cond (k == m) (pos 1) (pos 0))
    → total_below (λ k. x k *ℤ w k) n ≡ w m
total-one x w m zero l h = absurd (omega arith)
total-one x w m (suc n) l h = go (n == m) refl (total-one x w m n)
  where
    go : (t : Bool) → (n == m) ≡ t
        → (m < n → ((k : ℕ) → k < n → x k ≡ cond (k == m) (pos 1) (pos 0)) → total_below (λ k. x k *ℤ w k) n ≡ w m)
        → total_below (λ k. x k *ℤ w k) n +ℤ (x n *ℤ w n) ≡ w m
    go true is ih =
        let same = eqb-true n m is in
        let rest = total-none x w n (λ k l'. h k (omega arith) ∙ ap (λ t. cond t (pos 1) (pos 0)) (ne_eqb k m (λ e. omega arith))) in
        let one = ap (λ v. v *ℤ w n) (h n (omega arith) ∙ ap (λ t. cond t (pos 1) (pos 0)) is) in
        let last = ap w same in
        omega (arith, ints)
    go false is ih =
        let other : n ≡ m → ⊥ = λ e. absurd (let s = eq-eqb n m e in cc) in
        let rest = ih (omega (arith, other)) (λ k l'. h k (omega arith)) in
        let zero_of = ap (λ v. v *ℤ w n) (h n (omega arith) ∙ ap (λ t. cond t (pos 1) (pos 0)) is) in
        omega (arith, ints)
