use Rattle.std.proofs.Common.{arith, ◌∙◌, ap, ◌%◌}
use Rattle.std.proofs.lemmas.Option.{get_or_from_slice_get}
use Rattle.std.proofs.lemmas.Nat.{mod_below}
use Rattle.ct_words.specs.Text.{word_text}
use Rattle.ct_replies.proofs.WordTexts.{none_put, eight_more, rest_more, rest_below, first_more}
use Rattle.ct_replies.proofs.output.word_lines.print_text.Goals as goal

pub loop-left-init : goal.loop-left-init
loop-left-init c = none_put c.args.n c.args.word c.args.into.now c.requires.bytes

pub loop-left-preserved : goal.loop-left-preserved
loop-left-preserved c =
    let i = c.loop-left.invariant in
    let left = c.loop-left.left in
    let within = i.0 in
    let put = c.copy_from_slice.ensures.after ∙ get_or_from_slice_get c.args.texts.now (c.loop-left.rest % 256) (word_text 8 (c.loop-left.rest % 256)) _ (c.requires.texts (c.loop-left.rest % 256) (mod_below c.loop-left.rest 256 (omega arith))) in (
      omega (arith, within),
      rest_more left c.args.n c.args.word c.loop-left.rest c.loop-left-test.true i.0 i.1,
      eight_more left c.args.n _ c.args.word c.loop-left.into c.copy_from_slice.new.self c.loop-left-test.true i.0 (omega arith) (c.loop-left.auto.into ∙ c.requires.bytes) (put ∙ ap (λ r. word_text 8 (r % 256)) i.1) i.2,
    )

pub print_word-requires-clause-word : goal.print_word-requires-clause-word
print_word-requires-clause-word c =
    let i = c.loop-left.invariant in
    rest_below c.loop-left.left c.args.n c.args.word c.loop-left.rest i.0 c.requires.word i.1

pub returns : goal.returns
returns c =
    let i = c.loop-left.invariant in
    first_more c.loop-left.left c.args.n c.args.word c.loop-left.rest c.loop-left.into c.print_word.new.into i.0 c.requires.word i.1 c.print_word.ensures i.2
