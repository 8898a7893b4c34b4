-- One more number.
use Rattle.std.proofs.Common.{rules, ◌≡◌, true, false, ◌+◌, drop, get_or, ap, sym, ◌∙◌, arith}
use Rattle.std.specs.Prelude.{ℤ, pos, int_lt, ◌&&◌}
use Rattle.std.specs.List.{list_all}
use Rattle.std.proofs.lemmas.Int.{ints, to_z-of_z}
use Rattle.std.proofs.lemmas.List.{drop_more, drop_all}
use mir.Val.{SFits}
use mir.Syntax.{w64}
use Rattle.ct_duals.specs.Form.{is_number}
use Rattle.ct_duals.proofs.form.is_none_negative.Goals as goal

is_one : (z : ℤ) → SFits w64 z → int_lt z (pos 0) ≡ false → is_number z ≡ true
is_one z f h = grind (arith, ints)

is_none : (z : ℤ) → int_lt z (pos 0) ≡ true → is_number z ≡ false
is_none z h = grind (arith, ints)

pub loop-number-preserved : goal.loop-number-preserved
loop-number-preserved c =
    let zs = c.args.c.now in
    let i = c.loop-number.number-index in
    let z = get_or zs i (pos 0) in
    let f : SFits w64 z = search rules in
    let one = is_one z f (sym (ap (λ x. int_lt x (pos 0)) (to_z-of_z w64 z f)) ∙ c.if-number-lt0.false) in
    sym (ap (list_all is_number) (drop_more zs i (pos 0) c.loop-number-test.true) ∙ ap (λ b. b && list_all is_number (drop (i + 1) zs)) one)
    ∙ c.loop-number.invariant

pub returns-then-number-lt0 : goal.returns-then-number-lt0
returns-then-number-lt0 c =
    let zs = c.args.c.now in
    let i = c.loop-number.number-index in
    let z = get_or zs i (pos 0) in
    let f : SFits w64 z = search rules in
    let none = is_none z (sym (ap (λ x. int_lt x (pos 0)) (to_z-of_z w64 z f)) ∙ c.if-number-lt0.true) in
    sym (ap (list_all is_number) (drop_more zs i (pos 0) c.loop-number-test.true) ∙ ap (λ b. b && list_all is_number (drop (i + 1) zs)) none)
    ∙ c.loop-number.invariant

pub returns : goal.returns
returns c = sym (ap (list_all is_number) (drop_all c.loop-number.number-index c.args.c.now c.loop-number-test.false)) ∙ c.loop-number.invariant
