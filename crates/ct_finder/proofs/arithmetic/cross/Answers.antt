use Rattle.std.proofs.Common.{◌<◌, ◌^◌, sym, subst, ◌∙◌}
use Rattle.std.specs.Prelude.{ℤ, ◌*ℤ◌, ◌-ℤ◌, unsigned_abs}
use Rattle.std.proofs.lemmas.Int.{to_z-of_z}
use mir.Val.{SFits}
use mir.Syntax.{w64, w128}
use Rattle.ct_finder.proofs.arithmetic.cross.Goals as goal

pub returns-clause-value : goal.returns-clause-value
returns-clause-value c =
    let fits : SFits w128 c.difference.result = record { sfits = c.difference.type_inv } in
    to_z-of_z w128 c.difference.result fits ∙ c.difference.ensures.value
    ∙ (λ i. (to_z-of_z w64 c.args.p c.ranges.p i *ℤ to_z-of_z w64 c.args.x c.ranges.x i)
    -ℤ (to_z-of_z w64 c.args.r c.ranges.r i *ℤ to_z-of_z w64 c.args.y c.ranges.y i))

pub returns-clause-small : goal.returns-clause-small
returns-clause-small c =
    let fits : SFits w128 c.difference.result = record { sfits = c.difference.type_inv } in
    subst (λ (z : ℤ). unsigned_abs z < 2 ^ 127) (sym (to_z-of_z w128 c.difference.result fits)) c.difference.ensures.small
