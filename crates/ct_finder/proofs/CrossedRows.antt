-- The entries of p · R - r · P, and greatest common divisors of rows.
use Rattle.ct_finder.specs.Inside.Pivot.{crossed}
use Rattle.std.proofs.Common.{◌≡◌, ℕ, ◌+◌, ◌<◌, List, [], ◌∷◌, length, get_or, drop, refl, sym, ap, ◌∙◌, arith}
use Rattle.std.specs.Prelude.{zip, fold, ℤ, pos, ◌*ℤ◌, ◌-ℤ◌, unsigned_abs}
use Rattle.std.proofs.lemmas.List.{length-map, get_or-map, drop_more}
use Rattle.std.proofs.lemmas.Slice.Zip.{length-zip, get_or-zip}
use Rattle.std.proofs.lemmas.Nat.Gcd.{same_from_IsGcd, dvd_refl, dvd_of_mod-eq-zero}
use Rattle.ct_finder.specs.Divisor.{gcd}
use Rattle.ct_finder.proofs.Divisors.{gcd-is}

pub length-crossed : (p r : ℤ) (pivot row : List ℤ) → length row ≡ length pivot → length (crossed p r pivot row) ≡ length row
length-crossed p r pivot row same = simp length-map (let both = length-zip row pivot in omega arith)

pub crossed-at : (p r : ℤ) (pivot row : List ℤ) (j : ℕ) → length row ≡ length pivot → j < length row
    → get_or (crossed p r pivot row) j (pos 0) ≡ (p *ℤ get_or row j (pos 0)) -ℤ (r *ℤ get_or pivot j (pos 0))
crossed-at p r pivot row j same within =
    let both = length-zip row pivot in
    get_or-map (λ (v : ℤ × ℤ). (p *ℤ v.0) -ℤ (r *ℤ v.1)) (zip row pivot) j (pos 0, pos 0) (pos 0) (omega arith)
    ∙ ap (λ (v : ℤ × ℤ). (p *ℤ v.0) -ℤ (r *ℤ v.1)) (get_or-zip row pivot j (pos 0, pos 0) within (omega arith))

-- the divisor of what is left of a row, once an entry more is taken
abbrev pub with_entry : ℕ → ℤ → ℕ
with_entry g z = gcd (unsigned_abs z) g

pub divisor-more : (row : List ℤ) (g whole j : ℕ) → j < length row → fold with_entry g (drop j row) ≡ whole
    → fold with_entry (with_entry g (get_or row j (pos 0))) (drop (j + 1) row) ≡ whole
divisor-more row g whole j within is = ap (fold with_entry g) (sym (drop_more row j (pos 0) within)) ∙ is

-- once it is 1 it stays so
gcd-one : (a : ℕ) → gcd a 1 ≡ 1
gcd-one a = same_from_IsGcd a 1 (gcd a 1) 1 (gcd-is a 1) (dvd_of_mod-eq-zero 1 (omega arith), dvd_refl 1, λ d p q. q)

pub divisor-one : (row : List ℤ) → fold with_entry 1 row ≡ 1
divisor-one [] = refl
divisor-one (z ∷ row) = ap (λ g. fold with_entry g row) (gcd-one (unsigned_abs z)) ∙ divisor-one row
