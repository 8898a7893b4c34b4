use Rattle.std.proofs.Common.{◌∙◌, sym, ap, map, cond, Bool, List, ℕ, Bor}
use Rattle.ct_text.specs.Line.{words_of}
use Rattle.ct_commands.specs.declared.form.Form.TheVariants.{Nothing}
use Rattle.ct_commands.specs.Form.{form_of, words_form}
use Rattle.ct_commands.proofs.Forms.{first_words_tell}
use Rattle.ct_commands.proofs.form.read_form.Goals as goal

pub returns : goal.returns
unfolding form_of
returns c =
    c.form_of_words.ensures ∙ ap (λ (words : List (Bor (List ℕ))). words_form (map (λ word. word.now) words)) c.deref.ensures.value ∙ ap words_form c.in_ok-words.ensures
    ∙ first_words_tell (words_of c.args.line.now) ∙ ap (λ (b : Bool). cond b Nothing (words_form (words_of c.args.line.now))) (sym c.if-is_comment.false ∙ c.is_comment.ensures)
