-- The order of words is that of their texts.
use Rattle.std.proofs.Common.{◌≡◌, ℕ, zero, suc, ◌+◌, ◌*◌, ◌/◌, ◌%◌, ◌^◌, ◌<◌, Less, Equal, Greater, nat_cmp, sym, ap, ap₂, ◌∙◌, inl, inr, arith, pow-suc, pow_pos}
use Rattle.std.specs.Cmp.Lexicographic.{slice_cmp}
use Rattle.std.specs.Ordering.{ordering_then}
use Rattle.std.proofs.lemmas.Bool.{cases_order, lt-ltb, le-ltb, eq-eqb, ne_eqb}
use Rattle.std.proofs.lemmas.Nat.{shr_split, div_below, mod_below}
use Rattle.ct_words.specs.Text.{word_text}
use Rattle.ct_words.proofs.TextLemmas.{word_text-cons}

-- how two numbers compare
nat_cmp_less : (a b : ℕ) → a < b → nat_cmp a b ≡ Less
nat_cmp_less a b h = rw (lt-ltb a b h)

nat_cmp_same : (a b : ℕ) → a ≡ b → nat_cmp a b ≡ Equal
nat_cmp_same a b e = rw (le-ltb a b (omega arith), eq-eqb a b e)

nat_cmp_greater : (a b : ℕ) → b < a → nat_cmp a b ≡ Greater
nat_cmp_greater a b h = rw (le-ltb a b (omega arith), ne_eqb a b (λ e. omega arith))

-- one summand on both sides changes nothing
nat_cmp_shifted : (k a b : ℕ) → nat_cmp (k + a) (k + b) ≡ nat_cmp a b
nat_cmp_shifted k a b = elim (cases_order a b) [
  | inl same ↦ nat_cmp_same (k + a) (k + b) (omega arith) ∙ sym (nat_cmp_same a b same)
  | inr apart ↦ elim apart [
    | inl less ↦ nat_cmp_less (k + a) (k + b) (omega arith) ∙ sym (nat_cmp_less a b less)
    | inr greater ↦ nat_cmp_greater (k + a) (k + b) (omega arith) ∙ sym (nat_cmp_greater a b greater)
  ]
]

-- the first digit decides, and then the rest
digit_first : (m c v d w : ℕ) → c < 2 → d < 2 → v < 2 ^ m → w < 2 ^ m
    → ordering_then (nat_cmp (48 + c) (48 + d)) (nat_cmp v w) ≡ nat_cmp (c * 2 ^ m + v) (d * 2 ^ m + w)
digit_first m zero v zero w h k p q = sym (nat_cmp_shifted (0 * 2 ^ m) v w)
digit_first m zero v (suc zero) w h k p q = sym (nat_cmp_less (0 * 2 ^ m + v) (1 * 2 ^ m + w) (omega arith))
digit_first m (suc zero) v zero w h k p q = sym (nat_cmp_greater (1 * 2 ^ m + v) (0 * 2 ^ m + w) (omega arith))
digit_first m (suc zero) v (suc zero) w h k p q = sym (nat_cmp_shifted (1 * 2 ^ m) v w)
digit_first m (suc (suc c)) v d w h k p q = absurd (omega arith)
digit_first m zero v (suc (suc d)) w h k p q = absurd (omega arith)
digit_first m (suc zero) v (suc (suc d)) w h k p q = absurd (omega arith)

-- words of one length compare as their texts do
pub cmp-word_text : (n x y : ℕ) → x < 2 ^ n → y < 2 ^ n → slice_cmp nat_cmp (word_text n x) (word_text n y) ≡ nat_cmp x y
unfolding word_text
cmp-word_text zero x y h k = sym (nat_cmp_same x y (omega arith))
cmp-word_text (suc m) x y h k =
    let more = pow-suc 2 m in
    let x_is : x / 2 ^ m * 2 ^ m + x % 2 ^ m ≡ x = shr_split x m in
    let y_is : y / 2 ^ m * 2 ^ m + y % 2 ^ m ≡ y = shr_split y m in
    let c : x / 2 ^ m < 2 = div_below x (2 ^ m) 2 (pow_pos m) (omega arith) in
    let d : y / 2 ^ m < 2 = div_below y (2 ^ m) 2 (pow_pos m) (omega arith) in
    let v = mod_below x (2 ^ m) (pow_pos m) in
    let w = mod_below y (2 ^ m) (pow_pos m) in
    ap₂ (λ (i j : ℕ). slice_cmp nat_cmp (word_text (suc m) i) (word_text (suc m) j)) (sym x_is) (sym y_is)
    ∙ ap₂ (slice_cmp nat_cmp) (word_text-cons m (x / 2 ^ m) (x % 2 ^ m) c v) (word_text-cons m (y / 2 ^ m) (y % 2 ^ m) d w)
    ∙ ap (ordering_then (nat_cmp (48 + x / 2 ^ m) (48 + y / 2 ^ m))) (cmp-word_text m (x % 2 ^ m) (y % 2 ^ m) v w)
    ∙ digit_first m (x / 2 ^ m) (x % 2 ^ m) (y / 2 ^ m) (y % 2 ^ m) c d v w
    ∙ ap₂ nat_cmp x_is y_is
