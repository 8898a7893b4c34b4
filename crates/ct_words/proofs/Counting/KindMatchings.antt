-- The sum over the lists of k pairs, where as many places are of the first mixed kind as of the second, is 2^k k! times a signed count of matchings.
use Rattle.std.proofs.Common.{◌≡◌, ℕ, zero, suc, ◌-◌, ◌*◌, ◌^◌, sym, ap, ap₂, ◌∙◌, arith}
use Rattle.std.specs.Prelude.{ℤ, pos, neg_ℤ, ◌+ℤ◌, ◌-ℤ◌, ◌*ℤ◌}
use Rattle.std.proofs.Math.Nat.{pow-suc}
use Rattle.ct_words.specs.Counting.Binomials.{factorial}
use Rattle.ct_words.proofs.Counting.Totals.{int_dist}
use Rattle.ct_words.proofs.Counting.Products.{int_mul_assoc, int_mul_neg}
use Rattle.ct_words.proofs.Counting.Matchings.{signed_matchings, signed_matchings-first, signed_matchings-suc}
use Rattle.ct_words.proofs.Counting.PlaceKinds.{Kind, both, neither, first, second, less, by_kinds}

-- 2^k k!: in how many ways k pairs are ordered, and turned
abbrev pub orders : ℕ → ℕ
orders k = 2 ^ k * factorial k

-- one pair more
orders-suc : (k : ℕ) → orders (suc k) ≡ 2 * orders k * suc k
orders-suc k =
    let power = pow-suc 2 k in
    let e = ap (λ p. p * (suc k * factorial k)) power in
    omega arith

-- three factors, the last two of which make a multiple
twice : (n o : ℕ) (z : ℤ) → pos (2 * n) *ℤ (pos o *ℤ z) ≡ pos (2 * o) *ℤ (pos n *ℤ z)
twice n o z =
    let e : 2 * n * o ≡ 2 * o * n = omega arith in
    sym (int_mul_assoc (pos (2 * n)) (pos o) z) ∙ ap (λ m. pos m *ℤ z) e ∙ int_mul_assoc (pos (2 * o)) (pos n) z

-- multiplication distributes over a difference
int_dist_sub : (a b c : ℤ) → a *ℤ (b -ℤ c) ≡ (a *ℤ b) -ℤ (a *ℤ c)
int_dist_sub a b c = int_dist a b (neg_ℤ c) ∙ ap (λ z. (a *ℤ b) +ℤ z) (int_mul_neg a c)

-- both sides obey the same recurrence
pub by_kinds-matchings : (k : ℕ) (m : Kind → ℕ) → m first ≡ m second → by_kinds k m ≡ pos (orders k) *ℤ signed_matchings (m both) (m neither) (m first) k
by_kinds-matchings zero m h = let e = signed_matchings-first (m both) (m neither) (m first) in sym (ap (λ z. pos (orders 0) *ℤ z) e)
by_kinds-matchings (suc k) m h =
    let a = m both in
    let b = m neither in
    let c = m first in
    let straight = less both (less neither m) in
    let mixed = less first (less second m) in
    let a_is : a - 0 - 1 ≡ a - 1 = omega arith in
    let b_is : b - 1 - 0 ≡ b - 1 = omega arith in
    let c_is : c - 0 - 0 ≡ c = omega arith in
    let a_is' : a - 0 - 0 ≡ a = omega arith in
    let b_is' : b - 0 - 0 ≡ b = omega arith in
    let c_is' : c - 0 - 1 ≡ c - 1 = omega arith in
    let J = signed_matchings (a - 1) (b - 1) c k in
    let J' = signed_matchings a b (c - 1) k in
    let o = pos (2 * orders k) in
    let one : by_kinds k straight ≡ pos (orders k) *ℤ J =
    by_kinds-matchings k straight (omega arith) ∙ (λ i. pos (orders k) *ℤ signed_matchings (a_is i) (b_is i) (c_is i) k) in
    let other : by_kinds k mixed ≡ pos (orders k) *ℤ J' =
    by_kinds-matchings k mixed (omega arith) ∙ (λ i. pos (orders k) *ℤ signed_matchings (a_is' i) (b_is' i) (c_is' i) k) in
    let squares : 2 * (m first * m second) ≡ 2 * (c * c) = ap (λ n. 2 * (c * n)) (sym h) in
    ap₂ (λ y z. (pos (2 * (a * b)) *ℤ y) -ℤ (pos (2 * (m first * m second)) *ℤ z)) one other
    ∙ ap (λ n. (pos (2 * (a * b)) *ℤ (pos (orders k) *ℤ J)) -ℤ (pos n *ℤ (pos (orders k) *ℤ J'))) squares
    ∙ ap₂ (λ y z. y -ℤ z) (twice (a * b) (orders k) J) (twice (c * c) (orders k) J')
    ∙ sym (int_dist_sub o (pos (a * b) *ℤ J) (pos (c * c) *ℤ J'))
    ∙ ap (λ z. o *ℤ z) (sym (signed_matchings-suc a b c k))
    ∙ sym (int_mul_assoc o (pos (suc k)) (signed_matchings a b c (suc k)))
    ∙ ap (λ n. pos n *ℤ signed_matchings a b c (suc k)) (sym (orders-suc k))
