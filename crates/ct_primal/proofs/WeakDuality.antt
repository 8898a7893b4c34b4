-- No dual lies below a primal: c_k times the k-th transformed number, added over k.
use Rattle.std.proofs.Common.{◌≡◌, ℕ, zero, suc, ◌*◌, ◌/◌, ◌≤◌, List, [], ◌∷◌, sym, ap, ap₂, ◌∙◌, arith}
use Rattle.std.specs.Prelude.{ℤ, pos, ◌+ℤ◌, ◌*ℤ◌, ◌≤ℤ◌}
use Rattle.std.specs.List.{AllByRecursion}
use Rattle.std.proofs.lemmas.Int.{ints}
use Rattle.ct_words.specs.Counting.Sums.{total}
use Rattle.ct_words.specs.Counting.Alternating.{total_below}
use Rattle.std.proofs.lemmas.Nat.{le-div}
use Rattle.std.proofs.Math.Nat.{mul-le-mul_right, mul-div_cancel}
use Rattle.ct_words.proofs.Counting.Totals.{int_dist, total-add, total-zero, total-scale, total-congruence, total-congruence_within}
use Rattle.ct_words.proofs.Counting.Products.{int_mul_comm, int_mul_assoc}
use Rattle.ct_words.proofs.Counting.Combinations.{product-nonneg, product-le, total-le_within, total_below-first_le}

-- a combination of the rows at each index, each times its number, is the combination of the sums over the indices
exchanged : (c : ℕ → ℤ) (number : ℕ → ℕ → ℤ) (m : ℕ) (a : List (ℕ × ℤ))
    → total_below (λ k. c k *ℤ total (λ u. u.1 *ℤ number k u.0) a) m ≡ total (λ u. u.1 *ℤ total_below (λ k. c k *ℤ number k u.0) m) a
exchanged c number zero a = sym (total-congruence (λ u. u.1 *ℤ pos 0) (λ u. pos 0) a (λ u. nothing u.1) ∙ total-zero a) where
  nothing : (z : ℤ) → z *ℤ pos 0 ≡ pos 0
  nothing z = omega (arith, ints)
exchanged c number (suc m) a =
    let before : ℕ × ℤ → ℤ = λ u. u.1 *ℤ total_below (λ k. c k *ℤ number k u.0) m in
    let here : ℕ × ℤ → ℤ = λ u. c m *ℤ (u.1 *ℤ number m u.0) in
    let each : (u : ℕ × ℤ) → u.1 *ℤ (total_below (λ k. c k *ℤ number k u.0) m +ℤ (c m *ℤ number m u.0)) ≡ before u +ℤ here u =
    λ u. int_dist u.1 (total_below (λ k. c k *ℤ number k u.0) m) (c m *ℤ number m u.0) ∙ ap (λ z. before u +ℤ z) (pivoted u.1 (c m) (number m u.0)) in
    ap₂ (λ x y. x +ℤ y) (exchanged c number m a) (sym (total-scale (c m) (λ u. u.1 *ℤ number m u.0) a))
    ∙ sym (total-add before here a)
    ∙ sym (total-congruence (λ u. u.1 *ℤ (total_below (λ k. c k *ℤ number k u.0) m +ℤ (c m *ℤ number m u.0))) (λ u. before u +ℤ here u) a each)
  where
    pivoted : (x y z : ℤ) → x *ℤ (y *ℤ z) ≡ y *ℤ (x *ℤ z)
    pivoted x y z = sym (int_mul_assoc x y z) ∙ ap (λ p. p *ℤ z) (int_mul_comm x y) ∙ int_mul_assoc y x z

-- the pairs of a primal, its scale at index 0
abbrev pub with_scale : ℤ → List (ℕ × ℤ) → List (ℕ × ℤ)
with_scale q a = (0, q) ∷ a

-- where the first row is 1, no transformed number is below 0 and f at most 0 at each index of a, c_0 times the whole is at most q times f(0)
pub weak_duality : (c : ℕ → ℤ) (number : ℕ → ℕ → ℤ) (m : ℕ) (q : ℤ) (a : List (ℕ × ℤ)) → ((k : ℕ) → k ≤ m → pos 0 ≤ℤ c k)
    → ((k : ℕ) → k ≤ m → pos 0 ≤ℤ total (λ u. u.1 *ℤ number k u.0) (with_scale q a))
    → AllByRecursion (λ u. u.1 *ℤ number 0 u.0 ≡ u.1) (with_scale q a)
    → AllByRecursion (λ u. (pos 0 ≤ℤ u.1) × (total_below (λ k. c k *ℤ number k u.0) (suc m) ≤ℤ pos 0)) a
    → (c 0 *ℤ total (λ u. u.1) (with_scale q a)) ≤ℤ (q *ℤ total_below (λ k. c k *ℤ number k 0) (suc m))
weak_duality c number m q a some rows ones below =
    let all = with_scale q a in
    let row : ℕ → ℤ = λ k. total (λ u. u.1 *ℤ number k u.0) all in
    let f : ℕ → ℤ = λ i. total_below (λ k. c k *ℤ number k i) (suc m) in
    let least = total_below-first_le (λ k. c k *ℤ row k) m (λ k l. product-nonneg (c k) (row k) (some k l) (rows k l)) in
    let first : row 0 ≡ total (λ u. u.1) all = total-congruence_within (λ u. u.1 *ℤ number 0 u.0) (λ u. u.1) all ones in
    let sums = exchanged c number (suc m) all in
    let rest : total (λ u. u.1 *ℤ f u.0) a ≤ℤ total (λ u. pos 0) a = total-le_within (λ u. u.1 *ℤ f u.0) (λ u. pos 0) a (each f a below) in
    let none = total-zero a in
    let lead = ap (λ z. c 0 *ℤ z) first in
    omega (arith, ints)
  where
    each : (f : ℕ → ℤ) (us : List (ℕ × ℤ)) → AllByRecursion (λ u. (pos 0 ≤ℤ u.1) × (f u.0 ≤ℤ pos 0)) us → AllByRecursion (λ u. (u.1 *ℤ f u.0) ≤ℤ pos 0) us
    each f [] h = tt
    each f (u ∷ us) h =
        let product = product-le u.1 (f u.0) (pos 0) h.0.0 h.0.1 in
        let nothing : u.1 *ℤ pos 0 ≡ pos 0 = omega (arith, ints) in
        (omega (arith, ints), each f us h.1)

-- quotients of products that are in order
pub quotients-le : (a f c q : ℕ) → 1 ≤ c → 1 ≤ q → c * a ≤ q * f → a / q ≤ f / c
quotients-le a f c q some scale products =
    let x = a / q in
    let part : x * q ≤ a = omega arith in
    let grown = mul-le-mul_right c part in
    let both : x * c * q ≤ f * q = omega arith in
    let within = le-div (x * c) (f * q) q scale both in
    let whole = mul-div_cancel f scale in
    le-div x f c some (omega arith)
