-- The quotient of a multiple is exact, and it fits.
use Rattle.std.proofs.Common.{◌≡◌, sym, ap₂, ◌∙◌, arith}
use Rattle.std.specs.Prelude.{pos, ◌<ℤ◌, int_div}
use Rattle.std.proofs.lemmas.Int.{ints, quot_is, quot_fits}
use mir.Val.{SFits}
use mir.Syntax.{w64}
use Rattle.ct_krawtchouk.proofs.Quotients.{quotient_of_multiple}
use Rattle.ct_krawtchouk.proofs.krawtchouk.exact_quotient.Goals as goal

pub returns : goal.returns
returns c = λ number is.
    let whole = c.args.whole in
    let divisor = c.from.result in
    let some = c.requires in
    let divisor_is : divisor ≡ pos c.args.divisor = c.from.ensures in
    let positive : pos 0 <ℤ divisor = omega (arith, ints) in
    let f : SFits w64 whole = c.ranges.whole in
    let g : SFits w64 divisor = record { sfits = c.from.type_inv } in
    quot_is w64 whole divisor f g (quot_fits w64 whole divisor f positive)
    ∙ ap₂ int_div (sym is) divisor_is
    ∙ quotient_of_multiple c.args.divisor number some
