-- The product fits.
use Rattle.std.proofs.Common.{ap, ◌∙◌, arith}
use Rattle.std.specs.Prelude.{◌*ℤ◌, unsigned_abs}
use Rattle.std.proofs.Math.Nat.{mul-le-mul}
use Rattle.std.proofs.lemmas.Int.{to_z-of_z, unsigned_abs-mul, fits_signed_from_abs}
use mir.Val.{SFits, to_z, of_z}
use mir.Syntax.{w64}
use Rattle.ct_krawtchouk.proofs.krawtchouk.product.Goals as goal

pub returns-clause-value : goal.returns-clause-value
returns-clause-value c =
    let factor = c.args.factor in
    let number = c.args.number in
    let f : SFits w64 factor = c.ranges.factor in
    let g : SFits w64 number = c.ranges.number in
    let size = unsigned_abs-mul factor number in
    let most = mul-le-mul c.requires.factor c.requires.number in
    let fits : SFits w64 (factor *ℤ number) = fits_signed_from_abs w64 (factor *ℤ number) (omega arith) in
    (λ i. to_z w64 (of_z w64 (to_z-of_z w64 factor f i *ℤ to_z-of_z w64 number g i))) ∙ to_z-of_z w64 (factor *ℤ number) fits

pub returns-clause-small : goal.returns-clause-small
returns-clause-small c =
    let factor = c.args.factor in
    let number = c.args.number in
    let f : SFits w64 factor = c.ranges.factor in
    let g : SFits w64 number = c.ranges.number in
    let size = unsigned_abs-mul factor number in
    let most = mul-le-mul c.requires.factor c.requires.number in
    let fits : SFits w64 (factor *ℤ number) = fits_signed_from_abs w64 (factor *ℤ number) (omega arith) in
    let same = ap unsigned_abs ((λ i. to_z w64 (of_z w64 (to_z-of_z w64 factor f i *ℤ to_z-of_z w64 number g i))) ∙ to_z-of_z w64 (factor *ℤ number) fits) in
    omega arith
