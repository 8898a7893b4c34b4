-- A multiplier is at most 2^63 in size and a least sum less than 2^40, so their product is at most 2^103, and its sum with one below 2^116 fits.
use Rattle.std.proofs.Common.{ℕ, ℤ, pos, negsuc, ap, ap₂, sym, subst, ◌∙◌, ◌≡◌, ◌≤◌, ◌<◌, ◌+◌, ◌^◌, arith}
use Rattle.std.specs.Prelude.{◌+ℤ◌, ◌*ℤ◌, unsigned_abs}
use Rattle.std.proofs.Math.Nat.{mul-le-mul}
use Rattle.std.proofs.lemmas.Int.{to_z-of_z, unsigned_abs-mul, fits_signed_from_abs}
use Rattle.ct_words.proofs.Counting.Alternating.{unsigned_abs-add}
use mir.Val.{SFits, to_z, of_z}
use mir.Syntax.{w64, w128}
use Rattle.ct_parity.proofs.sums.add_product.Goals as goal

size_of : (z : ℤ) → SFits w64 z → unsigned_abs z ≤ 2 ^ 63
size_of (pos n) f = let h = f.sfits in omega arith
size_of (negsuc n) f = let h = f.sfits in omega arith

size_of_product : (m : ℤ) (n : ℕ) → SFits w64 m → n < 2 ^ 40 → unsigned_abs (m *ℤ pos n) ≤ 2 ^ 103
size_of_product m n fits small =
    let few : unsigned_abs (pos n) ≤ 2 ^ 40 = omega arith in
    let most = mul-le-mul (size_of m fits) few in
    subst (λ k. k ≤ 2 ^ 103) (sym (unsigned_abs-mul m (pos n))) (omega arith)

product_fits : (m : ℤ) (n : ℕ) → SFits w64 m → n < 2 ^ 40 → SFits w128 (m *ℤ pos n)
product_fits m n fits small = let most = size_of_product m n fits small in fits_signed_from_abs w128 (m *ℤ pos n) (omega arith)

size_of_sum : (a b : ℤ) → unsigned_abs b ≤ 2 ^ 103 → unsigned_abs (a +ℤ b) ≤ unsigned_abs a + 2 ^ 103
size_of_sum a b small = let most = unsigned_abs-add a b in omega arith

sum_fits : (a b : ℤ) → unsigned_abs a < 2 ^ 116 → unsigned_abs b ≤ 2 ^ 103 → SFits w128 (a +ℤ b)
sum_fits a b first second = let most = size_of_sum a b second in fits_signed_from_abs w128 (a +ℤ b) (omega arith)

-- both factors as they are read
factors : (m f g : ℤ) (n : ℕ) → f ≡ to_z w64 (of_z w64 m) → g ≡ pos n → SFits w64 m → SFits w128 f → SFits w128 g
    → to_z w128 (of_z w128 f) *ℤ to_z w128 (of_z w128 g) ≡ m *ℤ pos n
factors m f g n first second fits wide whole =
    ap₂ (λ a b. a *ℤ b) (to_z-of_z w128 f wide ∙ first ∙ to_z-of_z w64 m fits) (to_z-of_z w128 g whole ∙ second)

-- both terms as they are read
terms : (a b p : ℤ) → p ≡ b → SFits w128 a → SFits w128 b → to_z w128 (of_z w128 a) +ℤ to_z w128 (of_z w128 p) ≡ a +ℤ b
terms a b p is first second = ap₂ (λ x y. x +ℤ y) (to_z-of_z w128 a first) (ap (λ z. to_z w128 (of_z w128 z)) is ∙ to_z-of_z w128 b second)

-- the product as it is read in the record of what is known after both conversions
as_read : (c : goal.After-from-2) → to_z w128 (of_z w128 c.from.result) *ℤ to_z w128 (of_z w128 c.from-2.result) ≡ c.args.multiplier *ℤ pos c.args.least
as_read c =
    let wide : SFits w128 c.from.result = record { sfits = c.from.type_inv } in
    let whole : SFits w128 c.from-2.result = record { sfits = c.from-2.type_inv } in
    factors c.args.multiplier c.from.result c.from-2.result c.args.least c.from.ensures c.from-2.ensures c.ranges.multiplier wide whole

pub overflow_mul-result : goal.overflow_mul-result
overflow_mul-result c =
    subst (λ z. SFits w128 z) (sym (as_read c)) (product_fits c.args.multiplier c.args.least c.ranges.multiplier c.requires.least)

pub overflow_add-result : goal.overflow_add-result
overflow_add-result c =
    let a = c.args.sum in
    let b = c.args.multiplier *ℤ pos c.args.least in
    let small = size_of_product c.args.multiplier c.args.least c.ranges.multiplier c.requires.least in
    let fits = product_fits c.args.multiplier c.args.least c.ranges.multiplier c.requires.least in
    subst (λ z. SFits w128 z) (sym (terms a b _ (as_read c) c.ranges.sum fits)) (sum_fits a b c.requires.sum small)

pub returns : goal.returns
returns c =
    let a = c.args.sum in
    let b = c.args.multiplier *ℤ pos c.args.least in
    let small = size_of_product c.args.multiplier c.args.least c.ranges.multiplier c.requires.least in
    let fits = product_fits c.args.multiplier c.args.least c.ranges.multiplier c.requires.least in
    let is = ap (λ z. to_z w128 (of_z w128 z)) (terms a b _ (as_read c) c.ranges.sum fits) ∙ to_z-of_z w128 (a +ℤ b) (sum_fits a b c.requires.sum small) in
    record { value = is; small = subst (λ z. unsigned_abs z ≤ unsigned_abs a + 2 ^ 103) (sym is) (size_of_sum a b small) }
