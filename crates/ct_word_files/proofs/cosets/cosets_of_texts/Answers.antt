use Rattle.std.proofs.Common.{Ok, sym, ap₂, ◌∙◌}
use Rattle.std.proofs.lemmas.Result.{err_from_is_err_and}
use Rattle.ct_fields.specs.Reads.{texts_behind}
use Rattle.ct_fields.proofs.OneAnswer.{handed_on}
use Rattle.ct_kind.specs.declared.evidence.Evidence.{Evidence}
use Rattle.ct_kind.specs.declared.evidence.Evidence.TheVariants.{Cosets}
use Rattle.ct_word_files.specs.Cosets.{coset_count, cosets_of_texts}
use Rattle.ct_word_files.proofs.WordSteps.{cosets-no_word, cosets-miscounted, cosets-read}
use Rattle.ct_word_files.proofs.cosets.cosets_of_texts.Goals as goal

pub returns-in_err-representatives : goal.returns-in_err-representatives
returns-in_err-representatives c =
    let e = c.args.entry in
    let texts = texts_behind c.args.texts.now in
    let fault = c.in_err-representatives.field-0.0 in
    let p = err_from_is_err_and c.from_residual-in_err-representatives.result c.from_residual-in_err-representatives.ensures.1 in
    handed_on (λ (evidence : Evidence). evidence) c.from_residual-in_err-representatives.result
    (cosets_of_texts e (texts_behind c.args.basis_texts.now) texts) p.0 fault p.1 p.2
    (λ other. cosets-no_word e c.args.basis_texts.now texts c.in_ok-basis.basis.items c.in_ok-basis.ensures fault (c.in_err-representatives.ensures other))

pub returns-in_err-coset_count : goal.returns-in_err-coset_count
returns-in_err-coset_count c =
    let e = c.args.entry in
    let texts = texts_behind c.args.texts.now in
    let fault = c.in_err-coset_count.field-0.0 in
    let p = err_from_is_err_and c.from_residual-in_err-coset_count.result c.from_residual-in_err-coset_count.ensures.1 in
    handed_on (λ (evidence : Evidence). evidence) c.from_residual-in_err-coset_count.result
    (cosets_of_texts e (texts_behind c.args.basis_texts.now) texts) p.0 fault p.1 p.2
    (λ other. cosets-miscounted e c.args.basis_texts.now texts c.in_ok-basis.basis.items c.in_ok-basis.ensures c.in_ok-representatives.representatives.items
    fault c.in_ok-representatives.ensures
    (sym (ap₂ coset_count c.deref.ensures.value c.deref-2.ensures.value) ∙ sym c.in_err-coset_count.ensures))

pub returns : goal.returns
returns c =
    cosets-read c.args.entry c.args.basis_texts.now (texts_behind c.args.texts.now) c.in_ok-basis.basis.items c.in_ok-basis.ensures
    c.in_ok-representatives.representatives.items c.in_ok-representatives.ensures
    (sym (ap₂ coset_count c.deref.ensures.value c.deref-2.ensures.value) ∙ sym c.in_ok-coset_count.ensures)
    ∙ ap₂ (λ basis representatives. Ok (Cosets c.args.entry basis representatives)) (sym c.from_vec-basis.ensures) (sym c.from_vec-representatives.ensures)
