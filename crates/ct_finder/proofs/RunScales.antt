-- The scale of a run's primal is a multiple of the entry of each row from which it is made.
use Rattle.std.proofs.Common.{◌≡◌, ℕ, zero, suc, ◌*◌, ◌/◌, ◌≤◌, Bool, true, false, cond, List, [], ◌∷◌, refl, sym, ◌∙◌, arith, subst}
use Rattle.std.specs.Prelude.{filter, ℤ, fold}
use Rattle.std.specs.List.{AllByRecursion}
use Rattle.std.specs.Int.{◌∣◌}
use Rattle.std.proofs.Math.Nat.{dvd-mul_left, dvd-mul_right, dvd-mul_left_of_dvd, mul-dvd-mul_left, div-mul_cancel}
use Rattle.std.proofs.lemmas.Nat.{mul-le}
use Rattle.std.proofs.lemmas.Nat.Gcd.{dvd_refl, dvd_trans}
use Rattle.ct_finder.specs.Divisor.{gcd}
use Rattle.ct_finder.specs.RunPrimal.{basic_entry, next_scale}
use Rattle.ct_finder.proofs.Divisors.{gcd-is}

-- what holds of each element holds where it says less
pub all-weaker : {X : Type 0} (P Q : X → Type 0) → ((x : X) → P x → Q x) → (xs : List X) → AllByRecursion P xs → AllByRecursion Q xs
all-weaker P Q weaker [] h = tt
all-weaker P Q weaker (x ∷ xs) h = (weaker x h.0, all-weaker P Q weaker xs h.1)

pub all-both : {X : Type 0} (P Q : X → Type 0) (xs : List X) → AllByRecursion P xs → AllByRecursion Q xs → AllByRecursion (λ x. P x × Q x) xs
all-both P Q [] h k = tt
all-both P Q (x ∷ xs) h k = ((h.0, k.0), all-both P Q xs h.1 k.1)

-- of those that pass a test, and what holds of them
pub all-filtered : {X : Type 0} (P : X → Type 0) (p : X → Bool) (xs : List X) → AllByRecursion P xs → AllByRecursion P (filter p xs)
all-filtered P p [] h = tt
all-filtered {X} P p (x ∷ xs) h = go (p x) (all-filtered P p xs h.1)
  where
    go : (b : Bool) → AllByRecursion P (filter p xs) → AllByRecursion P (cond b (x ∷ filter p xs) (filter p xs))
    go true ih = (h.0, ih)
    go false ih = ih

pub all-unfiltered : {X : Type 0} (P : X → Type 0) (p : X → Bool) (xs : List X) → AllByRecursion P (filter p xs) → AllByRecursion (λ x. p x ≡ true → P x) xs
all-unfiltered P p [] h = tt
all-unfiltered {X} P p (x ∷ xs) h = go (p x) refl h (λ k. all-unfiltered P p xs k)
  where
    go : (b : Bool) → p x ≡ b → AllByRecursion P (cond b (x ∷ filter p xs) (filter p xs))
        → (AllByRecursion P (filter p xs) → AllByRecursion (λ y. p y ≡ true → P y) xs) → AllByRecursion (λ y. p y ≡ true → P y) (x ∷ xs)
    go true is k rest = ((λ passes. k.0), rest k.1)
    go false is k rest = ((λ passes. absurd (let both = sym is ∙ passes in cc)), rest k)

factor-some : (x g q : ℕ) → x * g ≡ q → 1 ≤ q → 1 ≤ x
factor-some zero g q h some = absurd (omega arith)
factor-some (suc x) g q h some = omega arith

-- (q/g) · b is a multiple of q and of b, and at least 1
pub next-multiple : (q b : ℕ) → 1 ≤ q → 1 ≤ b → (q ∣ q / gcd q b * b) × (b ∣ q / gcd q b * b) × (1 ≤ q / gcd q b * b)
next-multiple q b some more =
    let g = gcd q b in
    let both = gcd-is q b in
    let whole : q / g * g ≡ q = div-mul_cancel g both.0 in
    let first : q / g * g ∣ q / g * b = mul-dvd-mul_left g (q / g) both.1 in
    let quotient : 1 ≤ q / g = factor-some (q / g) g q whole some in
    (subst (λ m. m ∣ q / g * b) whole first, dvd-mul_left b (q / g), mul-le 1 1 (q / g) b quotient more)

-- so the last scale is a multiple of each entry
pub divides-last : (q : ℕ) (ls : List (List ℤ × ℕ)) → 1 ≤ q → AllByRecursion (λ l. 1 ≤ basic_entry l) ls
    → (q ∣ fold next_scale q ls) × (1 ≤ fold next_scale q ls) × AllByRecursion (λ l. basic_entry l ∣ fold next_scale q ls) ls
divides-last q [] some h = (dvd_refl q, some, tt)
divides-last q (l ∷ ls) some h =
    let next = next-multiple q (basic_entry l) some h.0 in
    let rest = divides-last (next_scale q l) ls next.2 h.1 in
    (dvd_trans q next.0 rest.0, rest.1, (dvd_trans (basic_entry l) next.1 rest.0, rest.2))

-- and a product is a multiple of each of its factors
abbrev pub product_of : ℕ → List (List ℤ × ℕ) → ℕ
product_of c [] = c
product_of c (l ∷ ls) = basic_entry l * product_of c ls

pub divides-product : (c : ℕ) (ls : List (List ℤ × ℕ)) → 1 ≤ c → AllByRecursion (λ l. 1 ≤ basic_entry l) ls
    → (c ∣ product_of c ls) × (1 ≤ product_of c ls) × AllByRecursion (λ l. basic_entry l ∣ product_of c ls) ls
divides-product c [] some h = (dvd_refl c, some, tt)
divides-product c (l ∷ ls) some h =
    let rest = divides-product c ls some h.1 in (
      dvd-mul_left_of_dvd c rest.0 (basic_entry l),
      mul-le 1 1 (basic_entry l) (product_of c ls) h.0 rest.1,
      (
        dvd-mul_right (basic_entry l) (product_of c ls),
        all-weaker (λ m. basic_entry m ∣ product_of c ls) (λ m. basic_entry m ∣ product_of c (l ∷ ls)) (λ m d. dvd-mul_left_of_dvd (basic_entry m) d (basic_entry l)) ls rest.2,
      ),
    )
