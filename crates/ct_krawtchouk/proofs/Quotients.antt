-- A multiple of a divisor, divided by it.
use Rattle.std.proofs.Common.{◌≡◌, ℕ, suc, ◌+◌, ◌-◌, ◌*◌, ◌/◌, ◌≤◌, ap, ◌∙◌, arith}
use Rattle.std.specs.Prelude.{ℤ, pos, negsuc, neg_ℤ, ◌*ℤ◌, int_div}
use Rattle.std.proofs.lemmas.Int.{ints}
use Rattle.std.proofs.lemmas.Nat.{div-mul-add}

-- of natural numbers
multiple : (d m : ℕ) → 1 ≤ d → d * m / d ≡ m
multiple d m some =
    let e : d * m ≡ m * d + 0 = omega arith in
    ap (λ n. n / d) e ∙ div-mul-add m d 0 some

-- of a negative number
negative : (d n m : ℕ) → 1 ≤ d → suc n ≡ d * suc m → int_div (negsuc n) (pos d) ≡ negsuc m
negative d n m some e =
    let same : suc n / d ≡ suc m = ap (λ x. x / d) e ∙ multiple d (suc m) some in
    ap (λ x. neg_ℤ (pos x)) same

-- of a whole number
pub quotient_of_multiple : (d : ℕ) (z : ℤ) → 1 ≤ d → int_div (pos d *ℤ z) (pos d) ≡ z
quotient_of_multiple d (pos m) some = ap pos (multiple d m some)
quotient_of_multiple d (negsuc m) some =
    let e : pos d *ℤ negsuc m ≡ negsuc (d * suc m - 1) = omega (arith, ints) in
    ap (λ z. int_div z (pos d)) e ∙ negative d (d * suc m - 1) m some (omega arith)
