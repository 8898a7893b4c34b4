-- Greatest common divisors: Euclid's algorithm finds them, and each entry of a row is a multiple of its divisor.
use Rattle.std.proofs.Common.{◌≡◌, ℕ, zero, suc, ◌%◌, ◌<◌, ◌≤◌, ◌==◌, Bool, true, false, ◌&&◌, cond, List, [], ◌∷◌, refl, sym, ap, ap₂, ◌∙◌, subst, arith, eqb-true}
use Rattle.std.specs.Prelude.{if◌then◌else◌, fold, map, sum_by, ℤ, pos, negsuc, ◌*ℤ◌, int_div, unsigned_abs, All}
use Rattle.std.specs.List.{AllByRecursion}
use Rattle.std.proofs.lemmas.List.Elements.{All-from_recursion, recursion_from_All, All-weaker}
use Rattle.std.specs.Int.{◌∣◌, IsGcd}
use Rattle.std.proofs.lemmas.Int.{ints, quot-rem}
use Rattle.std.proofs.lemmas.Bool.{eqb-false, eq-eqb}
use Rattle.std.proofs.lemmas.Nat.Gcd.{IsGcd-from_zero, IsGcd-from_mod, same_from_IsGcd, dvd_trans, dvd_refl, dvd-zero, le_of_dvd, mod-eq-zero_of_dvd, dvd_of_mod-eq-zero}
use Rattle.std.proofs.lemmas.List.Sums.{sum_by-cons}
use Rattle.std.proofs.Math.Nat.{dvd-add}
use Rattle.ct_finder.specs.Divisor.{divides_each, greatest_divisor, gcd, gcd_of, divisor, reduced}

-- Euclid's algorithm, for so many steps at most
abbrev pub euclid : ℕ → ℕ → ℕ → ℕ
euclid zero a b = a
euclid (suc n) a b = if b == 0 then a else euclid n b (a % b)

-- b steps and one are enough, since the remainders fall
abbrev pub euclid_of : ℕ → ℕ → ℕ
euclid_of a b = euclid (suc b) a b

-- that of a row, entry by entry
abbrev pub euclid_row : ℕ → List ℤ → ℕ
euclid_row g row = fold (λ h z. euclid_of (unsigned_abs z) h) g row

-- with steps enough Euclid's algorithm finds the greatest common divisor
pub euclid-finds : (n a b : ℕ) → b < n → IsGcd a b (euclid n a b)
euclid-finds zero a b l = absurd (omega arith)
euclid-finds (suc n) a b l = go (b == 0) refl (euclid-finds n b (a % b))
  where
    go : (t : Bool) → (b == 0) ≡ t → (a % b < n → IsGcd b (a % b) (euclid n b (a % b))) → IsGcd a b (cond t a (euclid n b (a % b)))
    go true is rest = IsGcd-from_zero a b (eqb-true b 0 is)
    go false is rest =
        let some : 0 < b = omega (arith, eqb-false b 0 is) in
        IsGcd-from_mod a b (euclid n b (a % b)) (rest (omega arith))

euclid-is : (a b : ℕ) → IsGcd a b (euclid_of a b)
euclid-is a b = euclid-finds (suc b) a b (omega arith)

-- it divides each entry, and what it began with
euclid_row-divides : (g : ℕ) (row : List ℤ) → (euclid_row g row ∣ g) × AllByRecursion (λ z. euclid_row g row ∣ unsigned_abs z) row
euclid_row-divides g [] = (dvd_refl g, tt)
euclid_row-divides g (z ∷ row) =
    let rest = euclid_row-divides (euclid_of (unsigned_abs z) g) row in
    let both = euclid-is (unsigned_abs z) g in
    (dvd_trans _ rest.0 both.1, (dvd_trans _ rest.0 both.0, rest.1))

-- what divides the number that it began with and each entry divides it
euclid_row-greatest : (m g : ℕ) (row : List ℤ) → m ∣ g → AllByRecursion (λ z. m ∣ unsigned_abs z) row → m ∣ euclid_row g row
euclid_row-greatest m g [] begun each = begun
euclid_row-greatest m g (z ∷ row) begun each =
    euclid_row-greatest m (euclid_of (unsigned_abs z) g) row ((euclid-is (unsigned_abs z) g).2 m each.0 begun) each.1

-- a number divides each entry where the test says so
each-tested : (m : ℕ) (row : List ℤ) → divides_each m row ≡ true → AllByRecursion (λ z. m ∣ unsigned_abs z) row
each-tested m [] h = tt
each-tested m (z ∷ row) h = go (unsigned_abs z % m == 0) refl h (λ k. each-tested m row k)
  where
    go : (t : Bool) → (unsigned_abs z % m == 0) ≡ t → (t && divides_each m row) ≡ true
        → (divides_each m row ≡ true → AllByRecursion (λ x. m ∣ unsigned_abs x) row) → AllByRecursion (λ x. m ∣ unsigned_abs x) (z ∷ row)
    go true is k rest = (dvd_of_mod-eq-zero m (eqb-true (unsigned_abs z % m) 0 is), rest k)
    go false is k rest = absurd cc

tested-each : (m : ℕ) (row : List ℤ) → AllByRecursion (λ z. m ∣ unsigned_abs z) row → divides_each m row ≡ true
tested-each m [] h = refl
tested-each m (z ∷ row) h =
    ap₂ (λ a b. a && b) (eq-eqb (unsigned_abs z % m) 0 (mod-eq-zero_of_dvd m {n = unsigned_abs z} h.0)) (tested-each m row h.1)

-- what is found up to a limit divides each entry, where it is not 0, and no number up to the limit that does so is greater
found-divides : (limit : ℕ) (row : List ℤ) → 1 ≤ greatest_divisor limit row → AllByRecursion (λ z. greatest_divisor limit row ∣ unsigned_abs z) row
found-divides zero row some = absurd (omega arith)
found-divides (suc m) row some = go (divides_each (suc m) row) refl some (λ k. found-divides m row k)
  where
    go : (t : Bool) → divides_each (suc m) row ≡ t → 1 ≤ cond t (suc m) (greatest_divisor m row)
        → (1 ≤ greatest_divisor m row → AllByRecursion (λ z. greatest_divisor m row ∣ unsigned_abs z) row)
        → AllByRecursion (λ z. cond t (suc m) (greatest_divisor m row) ∣ unsigned_abs z) row
    go true is k rest = each-tested (suc m) row is
    go false is k rest = rest k

found-greatest : (limit : ℕ) (row : List ℤ) (d : ℕ) → 1 ≤ d → d ≤ limit → divides_each d row ≡ true → d ≤ greatest_divisor limit row
found-greatest zero row d some within each = absurd (omega arith)
found-greatest (suc m) row d some within each = go (divides_each (suc m) row) refl (λ k. found-greatest m row d some k each)
  where
    go : (t : Bool) → divides_each (suc m) row ≡ t → (d ≤ m → d ≤ greatest_divisor m row) → d ≤ cond t (suc m) (greatest_divisor m row)
    go true is rest = within
    go false is rest = rest (below (d == suc m) refl)
      where
        below : (s : Bool) → (d == suc m) ≡ s → d ≤ m
        below true same = absurd (let e = sym each ∙ ap (λ n. divides_each n row) (eqb-true d (suc m) same) ∙ is in cc)
        below false other = omega (arith, eqb-false d (suc m) other)

-- a sum of entries' absolute values is divided by what divides each
sum-divided : (m : ℕ) (row : List ℤ) → AllByRecursion (λ z. m ∣ unsigned_abs z) row → m ∣ sum_by unsigned_abs row
sum-divided m [] h = dvd-zero m
sum-divided m (z ∷ row) h = subst (λ n. m ∣ n) (sym (sum_by-cons unsigned_abs z row)) (dvd-add m h.0 (sum-divided m row h.1))

sum-zero : (row : List ℤ) → sum_by unsigned_abs row ≡ 0 → AllByRecursion (λ z. 0 ∣ unsigned_abs z) row
sum-zero [] h = tt
sum-zero (z ∷ row) h =
    let whole = sum_by-cons unsigned_abs z row in
    let none : unsigned_abs z ≡ 0 = omega arith in
    (subst (λ v. 0 ∣ v) (sym none) (dvd_refl 0), sum-zero row (omega arith))

some-from_divides : (m n : ℕ) → m ∣ n → 1 ≤ n → 1 ≤ m
some-from_divides zero n h some = absurd (let none = mod-eq-zero_of_dvd 0 {n = n} h in omega arith)
some-from_divides (suc m) n h some = omega arith

-- Euclid's algorithm finds the greatest common divisor of a row
pub gcd_of-euclid : (row : List ℤ) → gcd_of row ≡ euclid_row 0 row
unfolding gcd_of
gcd_of-euclid row = go (sum_by unsigned_abs row) refl
  where
    each : AllByRecursion (λ z. euclid_row 0 row ∣ unsigned_abs z) row
    each = (euclid_row-divides 0 row).1

    go : (s : ℕ) → sum_by unsigned_abs row ≡ s → greatest_divisor s row ≡ euclid_row 0 row
    go zero is =
        let none = mod-eq-zero_of_dvd 0 {n = euclid_row 0 row} (euclid_row-greatest 0 0 row (dvd_refl 0) (sum-zero row is)) in
        omega arith
    go (suc s) is =
        let divided : euclid_row 0 row ∣ suc s = subst (λ n. euclid_row 0 row ∣ n) is (sum-divided (euclid_row 0 row) row each) in
        let some : 1 ≤ euclid_row 0 row = some-from_divides (euclid_row 0 row) (suc s) divided (omega arith) in
        let within : euclid_row 0 row ≤ suc s = le_of_dvd (omega arith) divided in
        let less : euclid_row 0 row ≤ greatest_divisor (suc s) row =
        found-greatest (suc s) row (euclid_row 0 row) some within (tested-each (euclid_row 0 row) row each) in
        let found = found-divides (suc s) row (omega arith) in
        let more : greatest_divisor (suc s) row ≤ euclid_row 0 row =
        le_of_dvd (omega arith) (euclid_row-greatest (greatest_divisor (suc s) row) 0 row (dvd-zero (greatest_divisor (suc s) row)) found) in
        omega arith

pub gcd_of-divides : (row : List ℤ) → AllByRecursion (λ z. gcd_of row ∣ unsigned_abs z) row
gcd_of-divides row = subst (λ g. AllByRecursion (λ z. g ∣ unsigned_abs z) row) (sym (gcd_of-euclid row)) (euclid_row-divides 0 row).1

pub gcd_of-greatest : (m : ℕ) (row : List ℤ) → AllByRecursion (λ z. m ∣ unsigned_abs z) row → m ∣ gcd_of row
gcd_of-greatest m row each = subst (λ g. m ∣ g) (sym (gcd_of-euclid row)) (euclid_row-greatest m 0 row (dvd-zero m) each)

pub gcd-is : (a b : ℕ) → IsGcd a b (gcd a b)
gcd-is a b =
    let both = gcd_of-divides (pos a ∷ pos b ∷ []) in
    (both.0, both.1.0, λ d p q. gcd_of-greatest d (pos a ∷ pos b ∷ []) (p, (q, tt)))

pub gcd-euclid : (a b : ℕ) → gcd a b ≡ euclid_of a b
gcd-euclid a b = same_from_IsGcd a b (gcd a b) (euclid_of a b) (gcd-is a b) (euclid-is a b)

-- and the greatest common divisor of a row is found entry by entry
pub gcd_of-fold : (row : List ℤ) → gcd_of row ≡ fold (λ g z. gcd (unsigned_abs z) g) 0 row
gcd_of-fold row = gcd_of-euclid row ∙ ap (λ (f : ℕ → ℕ → ℕ). fold (λ g z. f (unsigned_abs z) g) 0 row) (λ i a b. sym (gcd-euclid a b) i)

-- the divisor of a row is positive, and divides each entry
pub divisor-some : (row : List ℤ) → 1 ≤ divisor row
divisor-some row = go (gcd_of row == 0) refl
  where
    go : (t : Bool) → (gcd_of row == 0) ≡ t → 1 ≤ cond t 1 (gcd_of row)
    go true is = omega arith
    go false is = omega (arith, eqb-false (gcd_of row) 0 is)

one_divides : (m : ℕ) → 1 ∣ m
one_divides m = dvd_of_mod-eq-zero 1 (omega arith)

ones_divide : (row : List ℤ) → AllByRecursion (λ z. 1 ∣ unsigned_abs z) row
ones_divide [] = tt
ones_divide (z ∷ row) = (one_divides (unsigned_abs z), ones_divide row)

pub divisor-divides : (row : List ℤ) → AllByRecursion (λ z. divisor row ∣ unsigned_abs z) row
divisor-divides row = go (gcd_of row == 0)
  where
    go : (t : Bool) → AllByRecursion (λ z. cond t 1 (gcd_of row) ∣ unsigned_abs z) row
    go true = ones_divide row
    go false = gcd_of-divides row

-- the quotient of an entry by a divisor, times it, is the entry
pub quotient-exact : (g : ℕ) (z : ℤ) → 1 ≤ g → g ∣ unsigned_abs z → pos g *ℤ int_div z (pos g) ≡ z
quotient-exact g (pos a) some h =
    let whole = quot-rem (pos a) (pos g) in
    let none = mod-eq-zero_of_dvd g {n = a} h in
    omega (arith, ints)
quotient-exact g (negsuc a) some h =
    let whole = quot-rem (negsuc a) (pos g) in
    let none = mod-eq-zero_of_dvd g {n = suc a} h in
    omega (arith, ints)

-- 0 divides 0 alone
zero_divides : (z : ℤ) → 0 ∣ unsigned_abs z → z ≡ pos 0
zero_divides (pos a) h = let none = mod-eq-zero_of_dvd 0 {n = a} h in omega (arith, ints)
zero_divides (negsuc a) h = let none = mod-eq-zero_of_dvd 0 {n = suc a} h in absurd (omega (arith, ints))

-- it is 0 exactly where each entry is
gcd_of-zero : (row : List ℤ) → gcd_of row ≡ 0 → All (λ z. z ≡ pos 0) row
gcd_of-zero row is =
    All-weaker (λ z. gcd_of row ∣ unsigned_abs z) (λ z. z ≡ pos 0) (λ z h. zero_divides z (subst (λ g. g ∣ unsigned_abs z) is h)) row
    (All-from_recursion (λ z. gcd_of row ∣ unsigned_abs z) row (gcd_of-divides row))

gcd_of-zeros : (row : List ℤ) → All (λ z. z ≡ pos 0) row → gcd_of row ≡ 0
gcd_of-zeros row zeros =
    let each = All-weaker (λ z. z ≡ pos 0) (λ z. 0 ∣ unsigned_abs z) (λ z h. subst (λ v. 0 ∣ unsigned_abs v) (sym h) (dvd_refl 0)) row zeros in
    let none = mod-eq-zero_of_dvd 0 {n = gcd_of row} (gcd_of-greatest 0 row (recursion_from_All (λ z. 0 ∣ unsigned_abs z) row each)) in
    omega arith

-- the divisor of a row is the greatest number that divides each entry, where one is not 0, and else 1
pub divisor-greatest : (row : List ℤ) (m : ℕ) → All (λ z. m ∣ unsigned_abs z) row → ¬ All (λ z. z ≡ pos 0) row → m ≤ divisor row
divisor-greatest row m each some = go (gcd_of row == 0) refl
  where
    go : (t : Bool) → (gcd_of row == 0) ≡ t → m ≤ cond t 1 (gcd_of row)
    go true is = absurd (some (gcd_of-zero row (eqb-true (gcd_of row) 0 is)))
    go false is =
        let positive : 0 < gcd_of row = omega (arith, eqb-false (gcd_of row) 0 is) in
        le_of_dvd positive (gcd_of-greatest m row (recursion_from_All (λ z. m ∣ unsigned_abs z) row each))

pub divisor-zeros : (row : List ℤ) → All (λ z. z ≡ pos 0) row → divisor row ≡ 1
divisor-zeros row zeros = let none = gcd_of-zeros row zeros in rw none refl

-- the quotients of a row, each times the divisor, are the row
quotients-exact : (g : ℕ) (row : List ℤ) → 1 ≤ g → AllByRecursion (λ z. g ∣ unsigned_abs z) row
    → map (λ z. pos g *ℤ z) (map (λ z. int_div z (pos g)) row) ≡ row
quotients-exact g [] some each = refl
quotients-exact g (z ∷ row) some each =
    ap (λ v. v ∷ map (λ x. pos g *ℤ x) (map (λ x. int_div x (pos g)) row)) (quotient-exact g z some each.0)
    ∙ ap (λ vs. z ∷ vs) (quotients-exact g row some each.1)

pub reduced-exact : (row : List ℤ) → map (λ z. pos (divisor row) *ℤ z) (reduced row) ≡ row
reduced-exact row = quotients-exact (divisor row) row (divisor-some row) (divisor-divides row)
