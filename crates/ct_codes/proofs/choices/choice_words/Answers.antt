use Rattle.std.proofs.Common.{◌≡◌, ◌∙◌, ap, ◌*◌, ◌^◌, ◌++◌, length, get_or, arith}
use Rattle.ct_words.specs.Text.{tabulate}
use Rattle.ct_words.specs.Coset.{choice_word}
use Rattle.ct_codes.specs.Inside.Translated.{translated}
use Rattle.ct_codes.proofs.SpanLemmas.{choices-more, choices-all}
use Rattle.ct_codes.proofs.choices.choice_words.Goals as goal

pub loop-representative-preserved : goal.loop-representative-preserved
loop-representative-preserved c =
    let basis = c.args.basis.now in
    let representatives = c.args.representatives.now in
    c.in_ok-append_translated.ensures
    ∙ ap (λ xs. xs ++ translated basis (get_or representatives c.loop-representative.representative-index 0)) c.loop-representative.invariant
    ∙ choices-more basis representatives c.loop-representative.representative-index

pub returns : goal.returns
returns c =
    let basis = c.args.basis.now in
    let representatives = c.args.representatives.now in
    let all : c.loop-representative.representative-index ≡ length representatives = omega arith in
    c.loop-representative.invariant
    ∙ ap (λ a. tabulate (choice_word basis representatives) (a * 2 ^ length basis)) all ∙ choices-all basis representatives
