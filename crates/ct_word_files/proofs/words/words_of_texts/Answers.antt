use Rattle.std.proofs.Common.{Ok, sym, ap, ◌∙◌}
use Rattle.ct_fields.specs.Reads.{texts_behind}
use Rattle.ct_fields.specs.Fields.{words_from}
use Rattle.ct_fields.proofs.StepLemmas.{bind-at}
use Rattle.ct_kind.specs.declared.evidence.Evidence.TheVariants.{Words}
use Rattle.ct_word_files.specs.Words.{word_count}
use Rattle.ct_word_files.proofs.words.words_of_texts.Goals as goal

pub returns : goal.returns
returns c =
    let texts = texts_behind c.args.texts.now in
    let words = c.in_ok-words.words.items in
    bind-at (words_from c.args.entry.n 0 texts) _ words c.in_ok-words.ensures
    ∙ bind-at (word_count words) _ tt (sym (ap word_count c.deref.ensures.value) ∙ sym c.in_ok-word_count.ensures)
    ∙ ap (λ words. Ok (Words c.args.entry words)) (sym c.from_vec-words.ensures)
