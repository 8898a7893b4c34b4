-- From two coefficients of (1 - z)^i (1 + z)^m after each other to the next: this power series F has
-- (1 - z^2) F' = ((m - i) - (m + i) z) F (MacWilliams and Sloane, chapter 5, section 7).
use Rattle.std.proofs.Common.{◌≡◌, ℕ, suc, ◌+◌, ◌-◌, ◌*◌, ◌≤◌, refl, sym, ap, ◌∙◌, inl, inr, arith}
use Rattle.std.specs.Prelude.{ℤ, pos, neg_ℤ, ◌+ℤ◌, ◌-ℤ◌, ◌*ℤ◌}
use Rattle.std.proofs.lemmas.Bool.{cases_lt}
use Rattle.std.proofs.lemmas.Int.{ints}
use Rattle.ct_words.specs.Counting.Alternating.{sign}
use Rattle.ct_words.specs.Counting.Binomials.{choose}
use Rattle.ct_words.proofs.Counting.Binomials.{choose-suc, choose_past}
use Rattle.ct_words.proofs.Counting.Products.{int_neg_mul, int_dist_right}
use Rattle.ct_words.proofs.Counting.Totals.{int_dist}
use Rattle.ct_words.proofs.Counting.Convolutions.{convolution, convolution-congruence, convolution-add_left, convolution-add_right, convolution-scale_left, convolution-scale_right, convolution-last, convolution-place, swap_factors, none_of}
use Rattle.ct_words.proofs.Counting.SignedBinomials.{signed_binomial, minus_power, plus_power, signed_binomial-convolution}

-- the terms of a sequence times their places
abbrev placed : (ℕ → ℤ) → ℕ → ℤ
placed f j = pos j *ℤ f j

-- a sequence whose next term, times its place, is the term times its place and times a
abbrev Steps : ℤ → (ℕ → ℤ) → Type 0
Steps a f = (j : ℕ) → pos (suc j) *ℤ f (suc j) ≡ placed f j +ℤ (a *ℤ f j)

-- one whose next term, times its place, is b times the term, less the term times its place
abbrev StepsBack : ℤ → (ℕ → ℤ) → Type 0
StepsBack b g = (j : ℕ) → pos (suc j) *ℤ g (suc j) ≡ (pos 0 -ℤ placed g j) +ℤ (b *ℤ g j)

-- a convolution with the first sequence, placed
placed_left-suc : (a : ℤ) (f g : ℕ → ℤ) → Steps a f → (k : ℕ) → convolution (placed f) g (suc k) ≡ convolution (placed f) g k +ℤ (a *ℤ convolution f g k)
placed_left-suc a f g step k =
    let none = none_of (f 0) (g (suc k)) in
    let terms = convolution-congruence (λ j. pos (suc j) *ℤ f (suc j)) (λ j. placed f j +ℤ (a *ℤ f j)) g g k step (λ j. refl) in
    let both = convolution-add_left (placed f) (λ j. a *ℤ f j) g k in
    let scaled = convolution-scale_left a f g k in
    omega (arith, ints)

-- a convolution with a negated second sequence
convolution-neg_right : (f g : ℕ → ℤ) (k : ℕ) → convolution f (λ j. pos 0 -ℤ g j) k ≡ pos 0 -ℤ convolution f g k
convolution-neg_right f g k =
    let sum = convolution-add_right f g (λ j. pos 0 -ℤ g j) k in
    let none = convolution-congruence f f (λ j. g j +ℤ (pos 0 -ℤ g j)) (λ j. pos 0 *ℤ g j) k (λ j. refl) (λ j. omega (arith, ints)) in
    let zero_is = convolution-scale_right (pos 0) f g k in
    omega (arith, ints)

-- and with the second one, placed
placed_right-suc : (b : ℤ) (f g : ℕ → ℤ) → StepsBack b g → (k : ℕ) → convolution f (placed g) (suc k) ≡ (b *ℤ convolution f g k) -ℤ convolution f (placed g) k
placed_right-suc b f g step k =
    let last = convolution-last f (placed g) k in
    let none = swap_factors (f (suc k)) (pos 0) (g 0) in
    let terms = convolution-congruence f f (λ j. pos (suc j) *ℤ g (suc j)) (λ j. (pos 0 -ℤ placed g j) +ℤ (b *ℤ g j)) k (λ j. refl) step in
    let both = convolution-add_right f (λ j. pos 0 -ℤ placed g j) (λ j. b *ℤ g j) k in
    let negated = convolution-neg_right f (placed g) k in
    let scaled = convolution-scale_right b f g k in
    omega (arith, ints)

-- from the first term of a convolution of two such sequences to the second
convolution-first_step : (a b : ℤ) (f g : ℕ → ℤ) → Steps a f → StepsBack b g → pos 1 *ℤ convolution f g 1 ≡ (a *ℤ convolution f g 0) +ℤ (b *ℤ convolution f g 0)
convolution-first_step a b f g left right =
    let place = convolution-place f g 1 in
    let p = placed_left-suc a f g left 0 in
    let q = placed_right-suc b f g right 0 in
    let x = none_of (f 0) (g 0) in
    let y = swap_factors (f 0) (pos 0) (g 0) in
    omega (arith, ints)

-- and from two terms to the next
convolution-step : (a b : ℤ) (f g : ℕ → ℤ) → Steps a f → StepsBack b g → (k : ℕ)
    → pos (suc (suc k)) *ℤ convolution f g (suc (suc k)) ≡ ((a *ℤ convolution f g (suc k)) +ℤ (b *ℤ convolution f g (suc k))) -ℤ (((b *ℤ convolution f g k) -ℤ (a *ℤ convolution f g k)) -ℤ (pos k *ℤ convolution f g k))
convolution-step a b f g left right k =
    let place = convolution-place f g (suc (suc k)) in
    let before = convolution-place f g k in
    let p = placed_left-suc a f g left (suc k) in
    let q = placed_right-suc b f g right (suc k) in
    let r = placed_left-suc a f g left k in
    let s = placed_right-suc b f g right k in
    omega (arith, ints)

-- the next binomial coefficient of a row, also past its end
choose-step : (m j : ℕ) → suc j * choose m (suc j) + j * choose m j ≡ m * choose m j
choose-step m j =
    elim (cases_lt m j) [
      | inl past ↦
          let p = choose_past m j past in
          let q = choose_past m (suc j) (omega arith) in
          let a = ap (λ z. suc j * z) q in
          let b = ap (λ z. j * z) p in
          let c = ap (λ z. m * z) p in
          omega arith
      | inr within ↦
          let p = choose-suc m j within in
          let m_is : m ≡ j + (m - j) = omega arith in
          let q = ap (λ z. z * choose m j) m_is in
          omega arith
    ]

-- the coefficients of (1 + z)^m
plus_power-step : (m : ℕ) → StepsBack (pos m) (plus_power m)
plus_power-step m j = let e = ap pos (choose-step m j) in omega (arith, ints)

-- the coefficients of (1 - z)^i
minus_power-step : (i : ℕ) → Steps (neg_ℤ (pos i)) (minus_power i)
minus_power-step i j =
    let s = sign j in
    let x = choose i (suc j) in
    let y = choose i j in
    let e = ap pos (choose-step i j) in
    let split = ap (λ z. s *ℤ z) e in
    let sum = int_dist s (pos (suc j * x)) (pos (j * y)) in
    let first = swap_factors (pos (suc j)) (neg_ℤ s) (pos x) in
    let negated = int_neg_mul s (pos (suc j * x)) in
    let second = swap_factors (pos j) s (pos y) in
    let third = swap_factors (pos i) s (pos y) in
    let outer = int_neg_mul (pos i) (s *ℤ pos y) in
    omega (arith, ints)

-- the coefficients of their product, as a convolution
whole : (i m k : ℕ) → convolution (minus_power i) (plus_power m) k ≡ signed_binomial i m k
whole i m k = sym (signed_binomial-convolution i m k)

-- two terms exchanged
swap_terms : (a b : ℤ) → a +ℤ b ≡ b +ℤ a
swap_terms a b = omega (arith, ints)

-- the second coefficient from the first
pub signed_binomial-second : (i m : ℕ) → pos 1 *ℤ signed_binomial i m 1 ≡ (pos m -ℤ pos i) *ℤ signed_binomial i m 0
signed_binomial-second i m =
    let step = convolution-first_step (neg_ℤ (pos i)) (pos m) (minus_power i) (plus_power m) (minus_power-step i) (plus_power-step m) in
    let factor = int_dist_right (pos m) (neg_ℤ (pos i)) (signed_binomial i m 0) in
    ap (λ z. pos 1 *ℤ z) (sym (whole i m 1))
    ∙ step
    ∙ ap (λ z. (neg_ℤ (pos i) *ℤ z) +ℤ (pos m *ℤ z)) (whole i m 0)
    ∙ swap_terms (neg_ℤ (pos i) *ℤ signed_binomial i m 0) (pos m *ℤ signed_binomial i m 0)
    ∙ sym factor

-- the next coefficient from two
pub signed_binomial-step : (i m k : ℕ) → k ≤ i + m
    → pos (suc (suc k)) *ℤ signed_binomial i m (suc (suc k)) ≡ ((pos m -ℤ pos i) *ℤ signed_binomial i m (suc k)) -ℤ (pos (i + m - k) *ℤ signed_binomial i m k)
signed_binomial-step i m k h =
    let before = signed_binomial i m k in
    let step = convolution-step (neg_ℤ (pos i)) (pos m) (minus_power i) (plus_power m) (minus_power-step i) (plus_power-step m) k in
    let factor = int_dist_right (pos m) (neg_ℤ (pos i)) (signed_binomial i m (suc k)) in
    let negated = int_neg_mul (pos i) before in
    let parts = int_dist_right (pos (i + m - k)) (pos k) before in
    let all : i + m - k + k ≡ i + m = omega arith in
    let sum = ap (λ n. pos n *ℤ before) all in
    let halves = int_dist_right (pos i) (pos m) before in
    let e = rw (whole i m (suc k), whole i m k) at step in
    ap (λ z. pos (suc (suc k)) *ℤ z) (sym (whole i m (suc (suc k)))) ∙ omega (arith, ints)
