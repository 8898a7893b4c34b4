-- Combinations of the rows of a scheme, added over all pairs of words.
use Rattle.std.proofs.Common.{◌≡◌, ℕ, zero, suc, ◌*◌, ◌<◌, ◌≤◌, List, [], ◌∷◌, length, ap, ap₂, ◌∙◌, arith, inl, inr}
use Rattle.std.specs.Prelude.{ℤ, pos, negsuc, neg_ℤ, ◌+ℤ◌, ◌*ℤ◌, ◌≤ℤ◌}
use Rattle.std.specs.List.{AllByRecursion}
use Rattle.std.proofs.lemmas.Int.{ints}
use Rattle.std.proofs.lemmas.Nat.{mul-le}
use Rattle.std.proofs.lemmas.Bool.{cases_lt}
use Rattle.ct_words.specs.Counting.Sums.{total}
use Rattle.ct_words.specs.Counting.PairTotals.{pair_total}
use Rattle.ct_words.specs.Counting.Alternating.{total_below}
use Rattle.ct_words.proofs.Counting.Totals.{int_dist, total-congruence, total-zero, total-add}
use Rattle.ct_words.proofs.Counting.Products.{int_mul_neg}
use Rattle.ct_words.proofs.Counting.PairTotals.{pair_total-scale}

-- a product of numbers that are not negative is not negative
pub product-nonneg : (a b : ℤ) → pos 0 ≤ℤ a → pos 0 ≤ℤ b → pos 0 ≤ℤ (a *ℤ b)
product-nonneg (pos m) (pos n) p q = omega (arith, ints)
product-nonneg (pos m) (negsuc n) p q = absurd (omega (arith, ints))
product-nonneg (negsuc m) b p q = absurd (omega (arith, ints))

-- terms that are at most others at each element of the list have at most their total
pub total-le_within : {X : Type 0} (f g : X → ℤ) (xs : List X) → AllByRecursion (λ x. f x ≤ℤ g x) xs → total f xs ≤ℤ total g xs
total-le_within f g [] h = omega (arith, ints)
total-le_within f g (x ∷ xs) h =
    let ih = total-le_within f g xs h.1 in
    let first = h.0 in
    omega (arith, ints)

-- terms that are at most others have at most their total
pub total-le : {X : Type 0} (f g : X → ℤ) (xs : List X) → ((x : X) → f x ≤ℤ g x) → total f xs ≤ℤ total g xs
total-le f g [] h = omega (arith, ints)
total-le f g (x ∷ xs) h =
    let ih = total-le f g xs h in
    let first = h x in
    omega (arith, ints)

-- one number over and over
pub total-constant : {X : Type 0} (m : ℕ) (xs : List X) → total (λ _. pos m) xs ≡ pos (length xs * m)
total-constant m [] = omega (arith, ints)
total-constant m (x ∷ xs) = let ih = total-constant m xs in omega (arith, ints)

-- the sum over all pairs of a sum of two terms
pub pair_total-add : {X : Type 0} (f g : X → X → ℤ) (xs : List X) → pair_total (λ x y. f x y +ℤ g x y) xs ≡ pair_total f xs +ℤ pair_total g xs
pair_total-add f g xs =
    total-congruence (λ x. total (λ y. f x y +ℤ g x y) xs) (λ x. total (f x) xs +ℤ total (g x) xs) xs (λ x. total-add (f x) (g x) xs)
    ∙ total-add (λ x. total (f x) xs) (λ x. total (g x) xs) xs

-- the sum over all pairs of a combination is the combination of the sums
pub pair_total-combination : {X : Type 0} (c : ℕ → ℤ) (f : ℕ → X → X → ℤ) (m : ℕ) (xs : List X)
    → pair_total (λ x y. total_below (λ k. c k *ℤ f k x y) m) xs ≡ total_below (λ k. c k *ℤ pair_total (f k) xs) m
pair_total-combination c f zero xs = total-congruence (λ x. total (λ _. pos 0) xs) (λ _. pos 0) xs (λ x. total-zero xs) ∙ total-zero xs
pair_total-combination {X} c f (suc m) xs =
    pair_total-add (λ x y. total_below (λ k. c k *ℤ f k x y) m) (λ x y. c m *ℤ f m x y) xs
    ∙ ap₂ (λ a b. a +ℤ b) (pair_total-combination c f m xs) (pair_total-scale (c m) (f m) xs)

-- terms that are at most others add up to at most what these do
pub total_below-le : (f g : ℕ → ℤ) (m : ℕ) → ((k : ℕ) → k < m → f k ≤ℤ g k) → total_below f m ≤ℤ total_below g m
total_below-le f g zero h = omega (arith, ints)
total_below-le f g (suc m) h =
    let ih = total_below-le f g m (λ k l. h k (omega arith)) in
    let last = h m (omega arith) in
    omega (arith, ints)

-- a factor that is not negative keeps the order
pub product-le : (a b c : ℤ) → pos 0 ≤ℤ a → b ≤ℤ c → (a *ℤ b) ≤ℤ (a *ℤ c)
product-le a b c some below =
    let more : pos 0 ≤ℤ (c +ℤ neg_ℤ b) = omega (arith, ints) in
    let all = product-nonneg a (c +ℤ neg_ℤ b) some more in
    let split = int_dist a c (neg_ℤ b) in
    let turned = int_mul_neg a b in
    omega (arith, ints)

-- a sum of terms that are not negative is at least its first term
pub total_below-first_le : (f : ℕ → ℤ) (m : ℕ) → ((k : ℕ) → k ≤ m → pos 0 ≤ℤ f k) → f 0 ≤ℤ total_below f (suc m)
total_below-first_le f zero h = omega (arith, ints)
total_below-first_le f (suc m) h =
    let ih = total_below-first_le f m (λ k l. h k (omega arith)) in
    let last = h (suc m) (omega arith) in
    omega (arith, ints)

-- where the first row is 1 everywhere and no row adds up to less than 0 over all pairs, the combination adds up to at least c_0 times the number of pairs
pub combination-below : {X : Type 0} (c : ℕ → ℤ) (f : ℕ → X → X → ℤ) (m : ℕ) (xs : List X) → ((k : ℕ) → k ≤ m → pos 0 ≤ℤ c k)
    → pair_total (f 0) xs ≡ pos (length xs * length xs) → ((k : ℕ) → k ≤ m → pos 0 ≤ℤ pair_total (f k) xs)
    → (c 0 *ℤ pos (length xs * length xs)) ≤ℤ pair_total (λ x y. total_below (λ k. c k *ℤ f k x y) (suc m)) xs
combination-below c f m xs some ones rows =
    let first = total_below-first_le (λ k. c k *ℤ pair_total (f k) xs) m (λ k l. product-nonneg (c k) (pair_total (f k) xs) (some k l) (rows k l)) in
    let all = pair_total-combination c f (suc m) xs in
    let start = ap (λ z. c 0 *ℤ z) ones in
    omega (arith, ints)

-- so where each word has at most b with all words, b of them a part, there are at most b / c_0 words
pub words-within : (c b m : ℕ) → 1 ≤ c → (pos c *ℤ pos (m * m)) ≤ℤ pos (m * b) → c * m ≤ b
words-within c b zero some h = omega arith
words-within c b (suc m) some h =
    let products : c * (suc m * suc m) ≤ suc m * b = omega (arith, ints) in
    elim (cases_lt b (c * suc m)) [
      | inl less ↦
          let more = mul-le (suc m) (suc b) (suc m) (c * suc m) (omega arith) less in
          absurd (omega arith)
      | inr within ↦ within
    ]
