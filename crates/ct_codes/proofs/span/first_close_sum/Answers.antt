use Rattle.std.proofs.Common.{◌≡◌, ◌+◌, ◌*◌, ◌<◌, ◌^◌, ap, sym, subst, ◌∙◌, arith}
use Rattle.std.proofs.Math.Facts.{Fits-lt-pow}
use Rattle.std.proofs.lemmas.List.Elements.{All-from_get_or}
use Rattle.ct_codes.specs.Inside.First.{NonePasses}
use Rattle.ct_codes.specs.Inside.Span.{is_close_sum}
use Rattle.ct_codes.proofs.BlockLemmas.{block_long, steps_long, span-small, none_in_block, first_in_block, none_passes-join}
use Rattle.ct_codes.proofs.span.first_close_sum.Goals as goal

pub overflow_mul-result : goal.overflow_mul-result
overflow_mul-result c =
    let small = span-small c.args.rows.now c.args.block.now c.args.steps.now c.args.basis.now c.requires.parts in
    let step = c.loop-step-test.true in
    record { fits = omega arith }

pub overflow_add-result : goal.overflow_add-result
overflow_add-result c =
    let small = span-small c.args.rows.now c.args.block.now c.args.steps.now c.args.basis.now c.requires.parts in
    let step = c.loop-step-test.true in
    let far = c.if-far-lt-BLOCK.true in
    record { fits = omega arith }

pub returns-then-far-lt-BLOCK : goal.returns-then-far-lt-BLOCK
returns-then-far-lt-BLOCK c =
    let rows = c.args.rows.now in
    let block = c.args.block.now in
    let steps = c.args.steps.now in
    let basis = c.args.basis.now in
    let parts = c.requires.parts in
    let h = c.loop-step.step in
    let r = c.far_in_rows-far.result in
    let step = c.loop-step-test.true in
    let few = c.if-far-lt-BLOCK.true in
    let from = c.loop-step.auto.step in
    let long = steps_long rows block steps basis parts in
    let block_below = All-from_get_or (λ x. x < 2 ^ 32) block 0 (λ k i. Fits-lt-pow (c.type_inv.block k)) in
    let steps_below = All-from_get_or (λ x. x < 2 ^ 32) steps 0 (λ k i. Fits-lt-pow (c.type_inv.steps k)) in
    let counted = c.far_in_rows-far.ensures block (block_long rows block steps basis parts) parts.rows_are in
    let place : h * 64 + r ≡ 64 * h + r = omega arith in
    let none = none_in_block c.args.d rows block steps basis c.args.word h r parts (Fits-lt-pow c.ranges.word) block_below steps_below step counted in
    record {
      from = omega arith;
      within = omega arith;
      passes = ap (is_close_sum c.args.d basis c.args.word) place
          ∙ first_in_block c.args.d rows block steps basis c.args.word h r parts (Fits-lt-pow c.ranges.word) block_below steps_below step counted few;
      none_before = none_passes-join (is_close_sum c.args.d basis c.args.word) (64 * c.args.from) (64 * h) (h * 64 + r) c.loop-step.invariant
          (subst (NonePasses (is_close_sum c.args.d basis c.args.word) (64 * h)) (sym place) none);
    }

pub loop-step-preserved : goal.loop-step-preserved
loop-step-preserved c = λ k after before.
    let rows = c.args.rows.now in
    let block = c.args.block.now in
    let steps = c.args.steps.now in
    let basis = c.args.basis.now in
    let parts = c.requires.parts in
    let h = c.loop-step.step in
    let r = c.far_in_rows-far.result in
    let many = c.if-far-lt-BLOCK.false in
    let block_below = All-from_get_or (λ x. x < 2 ^ 32) block 0 (λ j i. Fits-lt-pow (c.type_inv.block j)) in
    let steps_below = All-from_get_or (λ x. x < 2 ^ 32) steps 0 (λ j i. Fits-lt-pow (c.type_inv.steps j)) in
    let counted = c.far_in_rows-far.ensures block (block_long rows block steps basis parts) parts.rows_are in
    let none = none_in_block c.args.d rows block steps basis c.args.word h r parts (Fits-lt-pow c.ranges.word) block_below steps_below c.loop-step-test.true counted in
    none_passes-join (is_close_sum c.args.d basis c.args.word) (64 * c.args.from) (64 * h) (64 * h + r) c.loop-step.invariant none k after (omega arith)

pub returns : goal.returns
returns c = λ k after before.
    let long = steps_long c.args.rows.now c.args.block.now c.args.steps.now c.args.basis.now c.requires.parts in
    let end = c.loop-step-test.false in
    c.loop-step.invariant k after (omega arith)
