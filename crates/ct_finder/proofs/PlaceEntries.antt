-- What a pivot makes of the entries of a row, place by place, and of what it gives for numbers at places.
use Rattle.ct_finder.specs.Inside.Pivot.{crossed}
use Rattle.std.proofs.Common.{◌≡◌, ℕ, zero, suc, ◌-◌, ◌≤◌, List, [], ◌∷◌, map, length, refl, sym, ap, ◌∙◌, arith}
use Rattle.std.specs.Prelude.{ℤ, pos, negsuc, ◌-ℤ◌, ◌*ℤ◌, ◌≤ℤ◌, int_div, unsigned_abs}
use Rattle.std.specs.List.{AllByRecursion}
use Rattle.std.specs.Int.{◌∣◌}
use Rattle.std.proofs.lemmas.Int.{ints}
use Rattle.ct_finder.specs.Divisor.{divisor}
use Rattle.ct_finder.specs.Pivot.{at, constant_of, pivoted_row}
use Rattle.ct_finder.specs.Basic.{worth}
use Rattle.ct_finder.proofs.Divisors.{divisor-some, divisor-divides, quotient-exact}
use Rattle.ct_finder.proofs.Crossed.{product-crossed, sum-crossed}
use Rattle.ct_finder.proofs.TurnedTableaus.{length-pivoted_row}

-- the entries of p · R - r · P
at-crossed : (p r : ℤ) (pivot row : List ℤ) → length row ≡ length pivot → (b : ℕ) → at (crossed p r pivot row) b ≡ (p *ℤ at row b) -ℤ (r *ℤ at pivot b)
at-crossed p r [] [] e b = omega (arith, ints)
at-crossed p r [] (v ∷ row) e b = absurd (omega arith)
at-crossed p r (u ∷ pivot) [] e b = absurd (omega arith)
at-crossed p r (u ∷ pivot) (v ∷ row) e zero = refl
at-crossed p r (u ∷ pivot) (v ∷ row) e (suc b) = at-crossed p r pivot row (omega arith) b

-- the entries of a row whose entries are divided
at-divided : (g : ℕ) → 1 ≤ g → (row : List ℤ) → AllByRecursion (λ z. g ∣ unsigned_abs z) row → (b : ℕ)
    → pos g *ℤ at (map (λ z. int_div z (pos g)) row) b ≡ at row b
at-divided g some [] h b = omega (arith, ints)
at-divided g some (v ∷ row) h zero = quotient-exact g v some h.0
at-divided g some (v ∷ row) h (suc b) = at-divided g some row h.1 b

-- what the crossed row is divided by
abbrev pub divisor_at : ℕ → List ℤ → List ℤ → ℕ
divisor_at e pivot row = divisor (crossed (at pivot e) (at row e) pivot row)

pub divisor_at-some : (e : ℕ) (pivot row : List ℤ) → 1 ≤ divisor_at e pivot row
divisor_at-some e pivot row = divisor-some (crossed (at pivot e) (at row e) pivot row)

-- what a pivot makes of a row, place by place
pub pivoted_row-entry : (e : ℕ) (pivot row : List ℤ) → length row ≡ length pivot → (b : ℕ)
    → pos (divisor_at e pivot row) *ℤ at (pivoted_row e pivot row) b ≡ (at pivot e *ℤ at row b) -ℤ (at row e *ℤ at pivot b)
pivoted_row-entry e pivot row same b =
    let whole = crossed (at pivot e) (at row e) pivot row in
    at-divided (divisor whole) (divisor-some whole) whole (divisor-divides whole) b ∙ at-crossed (at pivot e) (at row e) pivot row same b

-- of its constant
pub pivoted_row-constant : (e : ℕ) (pivot row : List ℤ) → length row ≡ length pivot
    → pos (divisor_at e pivot row) *ℤ constant_of (pivoted_row e pivot row) ≡ (at pivot e *ℤ constant_of row) -ℤ (at row e *ℤ constant_of pivot)
pivoted_row-constant e pivot row same =
    let last = length pivot - 1 in
    let new_is : constant_of (pivoted_row e pivot row) ≡ at (pivoted_row e pivot row) last = ap (λ n. at (pivoted_row e pivot row) (n - 1)) (length-pivoted_row e pivot row same) in
    let old_is : constant_of row ≡ at row last = ap (λ n. at row (n - 1)) same in
    ap (λ z. pos (divisor_at e pivot row) *ℤ z) new_is ∙ pivoted_row-entry e pivot row same last
    ∙ ap (λ z. (at pivot e *ℤ z) -ℤ (at row e *ℤ constant_of pivot)) (sym old_is)

-- of what it gives
pub pivoted_row-worth : (e : ℕ) (pivot row : List ℤ) → length row ≡ length pivot → (x : List (ℕ × ℤ))
    → pos (divisor_at e pivot row) *ℤ worth x (pivoted_row e pivot row) ≡ (at pivot e *ℤ worth x row) -ℤ (at row e *ℤ worth x pivot)
pivoted_row-worth e pivot row same [] = omega (arith, ints)
pivoted_row-worth e pivot row same (u ∷ x) =
    let new = pivoted_row e pivot row in
    let g = pos (divisor_at e pivot row) in
    sum-crossed g (at pivot e) (at row e) (at new u.0 *ℤ u.1) (at row u.0 *ℤ u.1) (at pivot u.0 *ℤ u.1) (worth x new) (worth x row) (worth x pivot)
    (product-crossed g (at pivot e) (at row e) (at new u.0) (at row u.0) (at pivot u.0) u.1 (pivoted_row-entry e pivot row same u.0))
    (pivoted_row-worth e pivot row same x)

-- a number of which a positive multiple is 0 is 0, and one of which a positive multiple is at least 0 is so
pub none-from_product : (p x : ℤ) → pos 1 ≤ℤ p → p *ℤ x ≡ pos 0 → x ≡ pos 0
none-from_product (pos (suc m)) (pos zero) some h = refl
none-from_product (pos (suc m)) (pos (suc n)) some h = absurd (omega (arith, ints))
none-from_product (pos (suc m)) (negsuc n) some h = absurd (omega (arith, ints))
none-from_product (pos zero) x some h = absurd (omega (arith, ints))
none-from_product (negsuc m) x some h = absurd (omega (arith, ints))

pub nonneg-from_product : (g : ℕ) (x : ℤ) → 1 ≤ g → pos 0 ≤ℤ (pos g *ℤ x) → pos 0 ≤ℤ x
nonneg-from_product zero x some h = absurd (omega arith)
nonneg-from_product (suc m) (pos n) some h = omega (arith, ints)
nonneg-from_product (suc m) (negsuc n) some h = absurd (omega (arith, ints))

-- what solves the pivot row and the pivoted row solves the row
pub worth-back : (e : ℕ) (pivot row : List ℤ) → length row ≡ length pivot → pos 1 ≤ℤ at pivot e → (x : List (ℕ × ℤ)) → worth x pivot ≡ pos 0
    → worth x (pivoted_row e pivot row) ≡ pos 0 → worth x row ≡ pos 0
worth-back e pivot row same some x none gone =
    let whole = pivoted_row-worth e pivot row same x in
    let first = ap (λ z. pos (divisor_at e pivot row) *ℤ z) gone in
    let second = ap (λ z. at row e *ℤ z) none in
    none-from_product (at pivot e) (worth x row) some (omega (arith, ints))
