-- Each entry is at most 2^63 in size, and a positive one less.
use Rattle.std.proofs.Common.{◌≡◌, ℕ, ◌*◌, ◌-◌, ◌≤◌, ◌^◌, ap, ap₂, sym, subst, ◌∙◌, arith}
use Rattle.std.specs.Prelude.{pos, ℤ, ◌*ℤ◌, ◌≤ℤ◌, unsigned_abs}
use Rattle.std.proofs.lemmas.Int.{ints, unsigned_abs-mul, fits_signed_mul, to_z-of_z}
use Rattle.std.proofs.lemmas.Nat.{mul-le}
use mir.Val.{SFits, to_z, of_z}
use mir.Syntax.{w64, w128}
use Rattle.ct_finder.proofs.arithmetic.product.Goals as goal
use Rattle.ct_finder.proofs.arithmetic.product.Goals.{After-from-2}

less_size : (x : ℤ) → SFits w64 x → pos 1 ≤ℤ x → unsigned_abs x ≤ 2 ^ 63 - 1
less_size x f h = omega (arith, ints)

most_size : (x : ℤ) → SFits w64 x → unsigned_abs x ≤ 2 ^ 63
most_size x f = omega (arith, ints)

product_fits : (x y : ℤ) → SFits w64 x → SFits w64 y → SFits w128 (x *ℤ y)
product_fits x y f g = fits_signed_mul w128 x y (2 ^ 63) (2 ^ 63) (most_size x f) (most_size y g) (omega arith)

small_product : (x y : ℤ) → SFits w64 x → SFits w64 y → unsigned_abs x * unsigned_abs y ≤ 2 ^ 126
small_product x y f g = let most = mul-le (unsigned_abs x) (unsigned_abs y) (2 ^ 63) (2 ^ 63) (most_size x f) (most_size y g) in omega (arith, most)

less_product : (x y : ℤ) → SFits w64 x → SFits w64 y → pos 1 ≤ℤ x → unsigned_abs x * unsigned_abs y ≤ 2 ^ 126 - 2 ^ 63
less_product x y f g h = let most = mul-le (unsigned_abs x) (unsigned_abs y) (2 ^ 63 - 1) (2 ^ 63) (less_size x f h) (most_size y g) in omega (arith, most)

-- both factors as they are read
factors : (x y a b : ℤ) → a ≡ to_z w64 (of_z w64 x) → b ≡ to_z w64 (of_z w64 y) → SFits w64 x → SFits w64 y → SFits w128 a → SFits w128 b
    → to_z w128 (of_z w128 a) *ℤ to_z w128 (of_z w128 b) ≡ x *ℤ y
factors x y a b first second f g fa fb =
    ap₂ (λ m n. m *ℤ n) (to_z-of_z w128 a fa ∙ first ∙ to_z-of_z w64 x f) (to_z-of_z w128 b fb ∙ second ∙ to_z-of_z w64 y g)

as_read : (c : After-from-2) → to_z w128 (of_z w128 c.from.result) *ℤ to_z w128 (of_z w128 c.from-2.result) ≡ c.args.x *ℤ c.args.y
as_read c =
    let fa : SFits w128 c.from.result = record { sfits = c.from.type_inv } in
    let fb : SFits w128 c.from-2.result = record { sfits = c.from-2.type_inv } in
    factors c.args.x c.args.y c.from.result c.from-2.result c.from.ensures c.from-2.ensures c.ranges.x c.ranges.y fa fb

-- and the product
value : (c : After-from-2) → to_z w128 (of_z w128 (to_z w128 (of_z w128 c.from.result) *ℤ to_z w128 (of_z w128 c.from-2.result))) ≡ c.args.x *ℤ c.args.y
value c =
    ap (λ z. to_z w128 (of_z w128 z)) (as_read c) ∙ to_z-of_z w128 (c.args.x *ℤ c.args.y) (product_fits c.args.x c.args.y c.ranges.x c.ranges.y)

pub overflow_mul-result : goal.overflow_mul-result
overflow_mul-result c = subst (λ z. SFits w128 z) (sym (as_read c)) (product_fits c.args.x c.args.y c.ranges.x c.ranges.y)

pub returns-clause-value : goal.returns-clause-value
returns-clause-value c = value c

pub returns-clause-size : goal.returns-clause-size
returns-clause-size c = ap unsigned_abs (value c) ∙ unsigned_abs-mul c.args.x c.args.y

pub returns-clause-small : goal.returns-clause-small
returns-clause-small c =
    let size = ap unsigned_abs (value c) ∙ unsigned_abs-mul c.args.x c.args.y in
    subst (λ (k : ℕ). k ≤ 2 ^ 126) (sym size) (small_product c.args.x c.args.y c.ranges.x c.ranges.y)

pub returns-clause-less : goal.returns-clause-less
returns-clause-less c = λ h.
    let size = ap unsigned_abs (value c) ∙ unsigned_abs-mul c.args.x c.args.y in
    subst (λ (k : ℕ). k ≤ 2 ^ 126 - 2 ^ 63) (sym size) (less_product c.args.x c.args.y c.ranges.x c.ranges.y h)
