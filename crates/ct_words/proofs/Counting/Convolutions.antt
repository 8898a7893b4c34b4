-- Convolutions of two sequences of whole numbers: f 0 · g k + f 1 · g (k - 1) + .. + f k · g 0.
use Rattle.std.proofs.Common.{◌≡◌, ℕ, zero, suc, ◌-◌, ◌<◌, refl, sym, ap, ap₂, ◌∙◌, arith}
use Rattle.std.specs.Prelude.{ℤ, pos, neg_ℤ, ◌+ℤ◌, ◌-ℤ◌, ◌*ℤ◌}
use Rattle.std.proofs.lemmas.Int.{ints}
use Rattle.ct_words.specs.Counting.Alternating.{total_below}
use Rattle.ct_words.proofs.Counting.Totals.{int_dist}
use Rattle.ct_words.proofs.Counting.Products.{int_mul_assoc, int_mul_comm, int_neg_mul, int_dist_right}

-- the sum over j of f j · g (k - j), taken from j = 0 on
abbrev pub convolution : (ℕ → ℤ) → (ℕ → ℤ) → ℕ → ℤ
convolution f g zero = f 0 *ℤ g 0
convolution f g (suc k) = (f 0 *ℤ g (suc k)) +ℤ convolution (λ j. f (suc j)) g k

-- a sequence from its second term on
abbrev pub tail : (ℕ → ℤ) → ℕ → ℤ
tail f j = f (suc j)

-- equal terms have equal totals
pub total_below-congruence : (f g : ℕ → ℤ) (k : ℕ) → ((j : ℕ) → j < k → f j ≡ g j) → total_below f k ≡ total_below g k
total_below-congruence f g zero h = refl
total_below-congruence f g (suc k) h =
    let ih = total_below-congruence f g k (λ j l. h j (omega arith)) in
    let last = h k (omega arith) in
    omega (arith, ints)

-- the first term apart from the others
pub total_below-first : (f : ℕ → ℤ) (k : ℕ) → total_below f (suc k) ≡ f 0 +ℤ total_below (λ j. f (suc j)) k
total_below-first f zero = omega (arith, ints)
total_below-first f (suc k) = let ih = total_below-first f k in omega (arith, ints)

-- it is the sum over j = 0, .., k as it is written
pub total_below-convolution : (f g : ℕ → ℤ) (k : ℕ) → total_below (λ j. f j *ℤ g (k - j)) (suc k) ≡ convolution f g k
total_below-convolution f g zero = total_below-first (λ j. f j *ℤ g (0 - j)) 0 ∙ omega (arith, ints)
total_below-convolution f g (suc k) =
    let first = total_below-first (λ j. f j *ℤ g (suc k - j)) (suc k) in
    let rest = total_below-congruence (λ j. f (suc j) *ℤ g (suc k - suc j)) (λ j. f (suc j) *ℤ g (k - j)) (suc k)
    (λ j l. ap (λ i. f (suc j) *ℤ g i) (omega arith)) in
    first ∙ ap₂ (λ a b. a +ℤ b) (ap (λ i. f 0 *ℤ g i) (omega arith)) (rest ∙ total_below-convolution (tail f) g k)

-- convolutions of equal sequences
pub convolution-congruence : (f f' g g' : ℕ → ℤ) (k : ℕ) → ((j : ℕ) → f j ≡ f' j) → ((j : ℕ) → g j ≡ g' j) → convolution f g k ≡ convolution f' g' k
convolution-congruence f f' g g' k p q = λ i. convolution (λ j. p j i) (λ j. q j i) k

-- a convolution with a sum of two sequences
pub convolution-add_right : (f g h : ℕ → ℤ) (k : ℕ) → convolution f (λ j. g j +ℤ h j) k ≡ convolution f g k +ℤ convolution f h k
convolution-add_right f g h zero = int_dist (f 0) (g 0) (h 0)
convolution-add_right f g h (suc k) =
    let first = int_dist (f 0) (g (suc k)) (h (suc k)) in
    let ih = convolution-add_right (tail f) g h k in
    omega (arith, ints)

-- and of a sum of two sequences
pub convolution-add_left : (f h g : ℕ → ℤ) (k : ℕ) → convolution (λ j. f j +ℤ h j) g k ≡ convolution f g k +ℤ convolution h g k
convolution-add_left f h g zero = int_dist_right (f 0) (h 0) (g 0)
convolution-add_left f h g (suc k) =
    let first = int_dist_right (f 0) (h 0) (g (suc k)) in
    let ih = convolution-add_left (tail f) (tail h) g k in
    omega (arith, ints)

-- a convolution with a negated sequence
pub convolution-neg_left : (f g : ℕ → ℤ) (k : ℕ) → convolution (λ j. neg_ℤ (f j)) g k ≡ neg_ℤ (convolution f g k)
convolution-neg_left f g zero = int_neg_mul (f 0) (g 0)
convolution-neg_left f g (suc k) =
    let first = int_neg_mul (f 0) (g (suc k)) in
    let ih = convolution-neg_left (tail f) g k in
    omega (arith, ints)

-- a convolution with a sequence of zeros
pub convolution-zero_left : (f g : ℕ → ℤ) (k : ℕ) → ((j : ℕ) → f j ≡ pos 0) → convolution f g k ≡ pos 0
convolution-zero_left f g zero h = ap (λ z. z *ℤ g 0) (h 0) ∙ omega (arith, ints)
convolution-zero_left f g (suc k) h =
    let first = ap (λ z. z *ℤ g (suc k)) (h 0) in
    let ih = convolution-zero_left (tail f) g k (λ j. h (suc j)) in
    omega (arith, ints)

-- a constant factor goes before the convolution
pub convolution-scale_left : (c : ℤ) (f g : ℕ → ℤ) (k : ℕ) → convolution (λ j. c *ℤ f j) g k ≡ c *ℤ convolution f g k
convolution-scale_left c f g zero = int_mul_assoc c (f 0) (g 0)
convolution-scale_left c f g (suc k) =
    let first = int_mul_assoc c (f 0) (g (suc k)) in
    let ih = convolution-scale_left c (tail f) g k in
    let both = int_dist c (f 0 *ℤ g (suc k)) (convolution (tail f) g k) in
    omega (arith, ints)

-- two factors exchanged
pub swap_factors : (a c b : ℤ) → a *ℤ (c *ℤ b) ≡ c *ℤ (a *ℤ b)
swap_factors a c b = sym (int_mul_assoc a c b) ∙ ap (λ z. z *ℤ b) (int_mul_comm a c) ∙ int_mul_assoc c a b

-- and so does one of the second sequence
pub convolution-scale_right : (c : ℤ) (f g : ℕ → ℤ) (k : ℕ) → convolution f (λ j. c *ℤ g j) k ≡ c *ℤ convolution f g k
convolution-scale_right c f g zero = swap_factors (f 0) c (g 0)
convolution-scale_right c f g (suc k) =
    let first = swap_factors (f 0) c (g (suc k)) in
    let ih = convolution-scale_right c (tail f) g k in
    let both = int_dist c (f 0 *ℤ g (suc k)) (convolution (tail f) g k) in
    omega (arith, ints)

-- the last term apart from the others
pub convolution-last : (f g : ℕ → ℤ) (k : ℕ) → convolution f g (suc k) ≡ convolution f (tail g) k +ℤ (f (suc k) *ℤ g 0)
convolution-last f g zero = refl
convolution-last f g (suc k) = let ih = convolution-last (tail f) g k in omega (arith, ints)

-- a number one more times another
one_more : (j : ℕ) (z : ℤ) → pos (suc j) *ℤ z ≡ z +ℤ (pos j *ℤ z)
one_more j z = omega (arith, ints)

-- no times a number
pub none_of : (z y : ℤ) → (pos 0 *ℤ z) *ℤ y ≡ pos 0
none_of z y = int_mul_assoc (pos 0) z y ∙ omega (arith, ints)

-- k times a convolution, by the places of the two factors of each term
pub convolution-place : (f g : ℕ → ℤ) (k : ℕ) → pos k *ℤ convolution f g k ≡ convolution (λ j. pos j *ℤ f j) g k +ℤ convolution f (λ j. pos j *ℤ g j) k
convolution-place f g zero =
    let p = none_of (f 0) (g 0) in
    let q = swap_factors (f 0) (pos 0) (g 0) in
    omega (arith, ints)
convolution-place f g (suc k) =
    let rest = convolution (tail f) g k in
    let p = none_of (f 0) (g (suc k)) in
    let q = swap_factors (f 0) (pos (suc k)) (g (suc k)) in
    let split = int_dist (pos (suc k)) (f 0 *ℤ g (suc k)) rest in
    let more = one_more k rest in
    let ih = convolution-place (tail f) g k in
    let shifted = convolution-congruence (λ j. pos (suc j) *ℤ f (suc j)) (λ j. f (suc j) +ℤ (pos j *ℤ f (suc j))) g g k (λ j. one_more j (f (suc j))) (λ j. refl) in
    let both = convolution-add_left (tail f) (λ j. pos j *ℤ f (suc j)) g k in
    omega (arith, ints)

-- where j times each term of both sequences is a multiple of the term before it in two others, so is k times their convolution
pub convolution-recurrence : (f g f' g' : ℕ → ℤ) (a b : ℤ) → ((j : ℕ) → pos (suc j) *ℤ f (suc j) ≡ a *ℤ f' j) → ((j : ℕ) → pos (suc j) *ℤ g (suc j) ≡ b *ℤ g' j)
    → (k : ℕ) → pos (suc k) *ℤ convolution f g (suc k) ≡ (a *ℤ convolution f' g k) +ℤ (b *ℤ convolution f g' k)
convolution-recurrence f g f' g' a b p q k =
    let place = convolution-place f g (suc k) in
    let none = none_of (f 0) (g (suc k)) in
    let left = convolution-congruence (λ j. pos (suc j) *ℤ f (suc j)) (λ j. a *ℤ f' j) g g k p (λ j. refl) ∙ convolution-scale_left a f' g k in
    let last = convolution-last f (λ j. pos j *ℤ g j) k in
    let right = convolution-congruence f f (λ j. pos (suc j) *ℤ g (suc j)) (λ j. b *ℤ g' j) k (λ j. refl) q ∙ convolution-scale_right b f g' k in
    let end = swap_factors (f (suc k)) (pos 0) (g 0) in
    omega (arith, ints)

-- where each term of the second sequence is the sum of two terms after each other of another, as in Pascal's triangle
pub convolution-pascal_right : (f g g' : ℕ → ℤ) → g' 0 ≡ g 0 → ((j : ℕ) → g' (suc j) ≡ g j +ℤ g (suc j))
    → (k : ℕ) → convolution f g' (suc k) ≡ convolution f g k +ℤ convolution f g (suc k)
convolution-pascal_right f g g' p q zero =
    let a = ap (λ z. f 0 *ℤ z) (q 0) in
    let b = ap (λ z. f 1 *ℤ z) p in
    let c = int_dist (f 0) (g 0) (g 1) in
    omega (arith, ints)
convolution-pascal_right f g g' p q (suc k) =
    let a = ap (λ z. f 0 *ℤ z) (q (suc k)) in
    let c = int_dist (f 0) (g (suc k)) (g (suc (suc k))) in
    let ih = convolution-pascal_right (tail f) g g' p q k in
    omega (arith, ints)

-- where each term of the first sequence is the difference of two terms after each other of another, as in Pascal's triangle with alternating signs
pub convolution-pascal_left : (f g f' : ℕ → ℤ) → f' 0 ≡ f 0 → ((j : ℕ) → f' (suc j) ≡ f (suc j) +ℤ neg_ℤ (f j))
    → (k : ℕ) → convolution f' g (suc k) ≡ convolution f g (suc k) -ℤ convolution f g k
convolution-pascal_left f g f' p q k =
    let a = ap (λ z. z *ℤ g (suc k)) p in
    let terms = convolution-congruence (tail f') (λ j. f (suc j) +ℤ neg_ℤ (f j)) g g k q (λ j. refl) in
    let both = convolution-add_left (tail f) (λ j. neg_ℤ (f j)) g k in
    let negated = convolution-neg_left f g k in
    omega (arith, ints)
