use Rattle.std.proofs.Common.{rules, arith, ◌≤◌, ap, ◌∙◌, length, take_all, sym, subst, ◌<◌, ◌^◌}
use Rattle.ct_text.specs.Number.{decimal_value}
use Rattle.ct_text.proofs.Numbers.{none_above, some_below, next_le, next-value}
use Rattle.ct_text.proofs.number.parse_number.Goals as goal

pub returns-in_default : goal.returns-in_default
returns-in_default c =
    let next = next_le c.loop-b.b-index c.args.text.now c.loop-b-test.true in
    none_above c.args.text.now (omega (arith, next, c.in_default.ensures))

pub returns-in_default-checked_add : goal.returns-in_default-checked_add
returns-in_default-checked_add c =
    let next = next_le c.loop-b.b-index c.args.text.now c.loop-b-test.true in
    none_above c.args.text.now (omega (arith, next, c.in-Some.ensures, c.in_default-checked_add.ensures, c.digit_value.ensures))

pub returns : goal.returns
returns c =
    let all : length c.args.text.now ≤ c.loop-b.b-index = omega arith in
    let whole = take_all c.loop-b.b-index c.args.text.now all in
    some_below c.args.text.now _ (search rules) (c.loop-b.invariant.0 ∙ ap decimal_value whole) c.loop-b.invariant.1

pub loop-b-preserved : goal.loop-b-preserved
loop-b-preserved c =
    let text = c.args.text.now in
    let i = c.loop-b.b-index in
    let (within, next) = c.in-Some-checked_add.ensures in (
      next-value text i c.loop-b.value c.in-Some.tens c.digit_value.result c.in-Some-checked_add.next c.loop-b-test.true c.loop-b.invariant.0 c.in-Some.ensures.1
          c.digit_value.ensures next,
      subst (λ v. v < 2 ^ 64) (sym next) within,
    )
