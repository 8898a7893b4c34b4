-- Decimal digits that are written from the last one on.
use Rattle.std.proofs.Common.{◌≡◌, ℕ, zero, suc, ◌+◌, ◌-◌, ◌*◌, ◌/◌, ◌%◌, ◌^◌, ◌<◌, ◌≤◌, List, [], ◌∷◌, ◌++◌, length, drop, slice_set, sym, ap, ◌∙◌, append_assoc, arith}
use Rattle.std.specs.Fmt.{decimal}
use Rattle.std.proofs.lemmas.Fmt.{decimal_digit, decimal_step}
use Rattle.std.proofs.lemmas.List.{drop-set, length-set}
use Rattle.std.proofs.Math.Nat.{pow-suc}

-- one more digit is written
pub one_more : (rest at number : ℕ) (ds : List ℕ) → length ds ≡ 20 → at < 20 → rest < 10 ^ (at + 1) → 10 ≤ rest → rest < 2 ^ 64 → decimal rest ++ drop (at + 1) ds ≡ decimal number
    → (length (slice_set ds at (48 + rest % 10)) ≡ 20) × (at - 1 < 20) × (rest / 10 < 10 ^ (at - 1 + 1)) × (decimal (rest / 10) ++ drop (at - 1 + 1) (slice_set ds at (48 + rest % 10)) ≡ decimal number)
one_more rest zero number ds long within below many small h = absurd (omega arith)
one_more rest (suc k) number ds long within below many small h =
    let back : suc k - 1 + 1 ≡ suc k = omega arith in
    let last = 48 + rest % 10 in
    let power : 10 ^ (suc k + 1) ≡ 10 * 10 ^ (suc k) = pow_more (suc k) in (
      length-set ds (suc k) last ∙ long,
      omega arith,
      rw back (omega (arith, power)),
      ap (λ n. decimal (rest / 10) ++ drop n (slice_set ds (suc k) last)) back
          ∙ ap (λ t. decimal (rest / 10) ++ t) (drop-set ds (suc k) last (omega arith))
          ∙ sym (append_assoc (decimal (rest / 10)) (last ∷ []) (drop (suc k + 1) ds))
          ∙ ap (λ t. t ++ drop (suc k + 1) ds) (sym (decimal_step rest many small)) ∙ h,
    )
  where
    pow_more : (n : ℕ) → 10 ^ (n + 1) ≡ 10 * 10 ^ n
    pow_more n = let e : n + 1 ≡ suc n = omega arith in let p : 10 ^ suc n ≡ 10 ^ n * 10 = pow-suc 10 n in ap (λ m. 10 ^ m) e ∙ omega (arith, p)

-- the first digit is written
pub the_first : (rest at number : ℕ) (ds : List ℕ) → length ds ≡ 20 → at < 20 → rest < 10 → decimal rest ++ drop (at + 1) ds ≡ decimal number → drop at (slice_set ds at (48 + rest)) ≡ decimal number
the_first rest at number ds long within few h =
    drop-set ds at (48 + rest) (omega arith) ∙ ap (λ t. t ++ drop (at + 1) ds) (sym (decimal_digit rest few)) ∙ h
