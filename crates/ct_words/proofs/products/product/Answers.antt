-- A multiplier is at most 2^63 and a number of a scheme less than 2^47, so the product fits, and is as small as is said.
use Rattle.std.proofs.Common.{ℤ, pos, negsuc, ap, ap₂, sym, subst, ◌∙◌, ◌≡◌, ◌≤◌, ◌<◌, ◌^◌, arith}
use Rattle.std.specs.Prelude.{◌*ℤ◌, unsigned_abs}
use Rattle.std.proofs.Math.Nat.{mul-le-mul}
use Rattle.std.proofs.lemmas.Int.{to_z-of_z, unsigned_abs-mul, fits_signed_mul}
use mir.Val.{SFits, to_z, of_z}
use mir.Syntax.{w64, w128}
use Rattle.ct_words.proofs.products.product.Goals as goal

size_of : (z : ℤ) → SFits w64 z → unsigned_abs z ≤ 2 ^ 63
size_of (pos n) f = let h = f.sfits in omega arith
size_of (negsuc n) f = let h = f.sfits in omega arith

-- both factors as they are read
factors : (m f n : ℤ) → f ≡ to_z w64 (of_z w64 m) → SFits w64 m → SFits w128 f → SFits w128 n
    → to_z w128 (of_z w128 f) *ℤ to_z w128 (of_z w128 n) ≡ m *ℤ n
factors m f n is fits wide whole =
    ap₂ (λ a b. a *ℤ b) (to_z-of_z w128 f wide ∙ is ∙ to_z-of_z w64 m fits) (to_z-of_z w128 n whole)

fits_whole : (m n : ℤ) → SFits w64 m → unsigned_abs n < 2 ^ 47 → SFits w128 (m *ℤ n)
fits_whole m n fits small = fits_signed_mul w128 m n (2 ^ 63) (2 ^ 47) (size_of m fits) (omega arith) (omega arith)

pub overflow_mul-result : goal.overflow_mul-result
overflow_mul-result c =
    let m = c.args.multiplier in
    let n = c.args.number in
    let wide : SFits w128 c.from.result = record { sfits = c.from.type_inv } in
    let as_read = factors m c.from.result n c.from.ensures c.ranges.multiplier wide c.ranges.number in
    subst (λ z. SFits w128 z) (sym as_read) (fits_whole m n c.ranges.multiplier c.requires)

pub returns : goal.returns
returns c =
    let m = c.args.multiplier in
    let n = c.args.number in
    let wide : SFits w128 c.from.result = record { sfits = c.from.type_inv } in
    let as_read = factors m c.from.result n c.from.ensures c.ranges.multiplier wide c.ranges.number in
    let value = ap (λ z. to_z w128 (of_z w128 z)) as_read ∙ to_z-of_z w128 (m *ℤ n) (fits_whole m n c.ranges.multiplier c.requires) in
    let number = c.requires in
    let few : unsigned_abs n ≤ 2 ^ 47 = omega arith in
    let most = mul-le-mul (size_of m c.ranges.multiplier) few in
    let size : unsigned_abs (m *ℤ n) ≤ 2 ^ 110 = subst (λ k. k ≤ 2 ^ 110) (sym (unsigned_abs-mul m n)) (omega arith) in
    record { value = value; small = subst (λ z. unsigned_abs z ≤ 2 ^ 110) (sym value) size }
