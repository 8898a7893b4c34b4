use Rattle.std.proofs.Common.{◌++◌, length, take, drop, sym, ap, ◌∙◌}
use Rattle.std.proofs.Math.Seq.{take-append_seam}
use Rattle.ct_fields.proofs.writing.word_text.Goals as goal

pub returns : goal.returns
returns c =
    let text = c.print_word.new.into in
    let old = drop (length text) c.in_ok-text.text.items in
    ap (λ size. take size (text ++ old)) (sym (c.print_word.auto.into ∙ c.deref_mut.ensures.len)) ∙ take-append_seam text old ∙ c.print_word.ensures
