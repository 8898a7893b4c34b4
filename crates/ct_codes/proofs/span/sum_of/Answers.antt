use Rattle.std.proofs.Common.{◌+◌, ◌/◌, bit_xor, drop, sym, ap, ◌∙◌}
use Rattle.std.specs.Int.Bits.{xor_assoc}
use Rattle.std.proofs.lemmas.List.{drop_more}
use Rattle.ct_words.specs.Coset.{span_word}
use Rattle.ct_codes.proofs.span.sum_of.Goals as goal

pub loop-word-preserved : goal.loop-word-preserved
loop-word-preserved c =
    let i = c.loop-word.word-index in
    let sum = c.loop-word.sum in
    let rest = c.loop-word.rest in
    let later = span_word (drop (i + 1) c.args.basis.now) (rest / 2) in
    xor_assoc sum c.if_chosen-sum.result later
    ∙ ap (λ x. bit_xor sum (bit_xor x later)) c.if_chosen-sum.ensures
    ∙ ap (λ ws. bit_xor sum (span_word ws rest)) (sym (drop_more c.args.basis.now i 0 c.loop-word-test.true))
    ∙ c.loop-word.invariant
