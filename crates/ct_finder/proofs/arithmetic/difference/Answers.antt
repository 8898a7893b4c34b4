-- The difference of the two products fits.
use Rattle.std.proofs.Common.{ap₂, arith}
use Rattle.std.specs.Prelude.{◌-ℤ◌}
use Rattle.std.proofs.lemmas.Int.{to_z-of_z, fits_signed_from_abs}
use mir.Val.{SFits}
use mir.Syntax.{w64, w128}
use Rattle.ct_words.proofs.Counting.Alternating.{unsigned_abs-sub}
use Rattle.ct_finder.proofs.arithmetic.difference.Goals as goal

pub overflow_sub-result : goal.overflow_sub-result
overflow_sub-result c =
    let f : SFits w128 c.product.result = record { sfits = c.product.type_inv } in
    let g : SFits w128 c.product-2.result = record { sfits = c.product-2.type_inv } in
    let sum = unsigned_abs-sub c.product.result c.product-2.result in
    let fp : SFits w64 c.args.p = c.ranges.p in
    let first = (simp to_z-of_z at c.product.ensures.less) c.requires.positive in
    let second = c.product-2.ensures.small in
    simp to_z-of_z (fits_signed_from_abs w128 (c.product.result -ℤ c.product-2.result) (omega arith))

pub returns-clause-value : goal.returns-clause-value
returns-clause-value c =
    let f : SFits w128 c.product.result = record { sfits = c.product.type_inv } in
    let g : SFits w128 c.product-2.result = record { sfits = c.product-2.type_inv } in
    let sum = unsigned_abs-sub c.product.result c.product-2.result in
    let fp : SFits w64 c.args.p = c.ranges.p in
    let first = (simp to_z-of_z at c.product.ensures.less) c.requires.positive in
    let second = c.product-2.ensures.small in
    let h : SFits w128 (c.product.result -ℤ c.product-2.result) = fits_signed_from_abs w128 (c.product.result -ℤ c.product-2.result) (omega arith) in
    let fx : SFits w64 c.args.x = c.ranges.x in
    let fr : SFits w64 c.args.r = c.ranges.r in
    let fy : SFits w64 c.args.y = c.ranges.y in
    simp to_z-of_z (ap₂ (λ a b. a -ℤ b) (simp to_z-of_z at c.product.ensures.value) (simp to_z-of_z at c.product-2.ensures.value))

pub returns-clause-small : goal.returns-clause-small
returns-clause-small c =
    let f : SFits w128 c.product.result = record { sfits = c.product.type_inv } in
    let g : SFits w128 c.product-2.result = record { sfits = c.product-2.type_inv } in
    let sum = unsigned_abs-sub c.product.result c.product-2.result in
    let fp : SFits w64 c.args.p = c.ranges.p in
    let first = (simp to_z-of_z at c.product.ensures.less) c.requires.positive in
    let second = c.product-2.ensures.small in
    let h : SFits w128 (c.product.result -ℤ c.product-2.result) = fits_signed_from_abs w128 (c.product.result -ℤ c.product-2.result) (omega arith) in
    simp to_z-of_z (omega arith)
