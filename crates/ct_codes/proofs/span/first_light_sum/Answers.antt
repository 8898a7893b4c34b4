use Rattle.std.proofs.Common.{◌∙◌, sym, ap, ◌^◌, nat_lt, length, position, arith}
use Rattle.std.proofs.lemmas.List.{take_rest}
use Rattle.ct_words.specs.Word.{distance}
use Rattle.ct_codes.specs.Inside.Span.{is_close_sum}
use Rattle.ct_codes.proofs.BlockLemmas.{light-first, light-none, first_or_none-join}
use Rattle.ct_codes.proofs.span.first_light_sum.Goals as goal

pub returns-in-Some : goal.returns-in-Some
returns-in-Some c =
    let found = ap (position (λ x. nat_lt (distance 32 0 x) c.args.d)) (sym (take_rest c.args.block.now 1)) ∙ sym c.in-Some.ensures in
    light-first c.args.d c.args.rows.now c.args.block.now c.args.steps.now c.args.basis.now c.in-Some.more c.requires.parts found

pub returns : goal.returns
returns c =
    let none = ap (position (λ x. nat_lt (distance 32 0 x) c.args.d)) (sym (take_rest c.args.block.now 1)) ∙ sym c.first_close.ensures ∙ c.in_default.is in
    first_or_none-join (is_close_sum c.args.d c.args.basis.now 0) 1 64 (2 ^ length c.args.basis.now) c.first_close_sum.result (omega arith)
    (light-none c.args.d c.args.rows.now c.args.block.now c.args.steps.now c.args.basis.now c.requires.parts none) c.first_close_sum.ensures
