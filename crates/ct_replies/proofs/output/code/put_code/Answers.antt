use Rattle.std.proofs.lemmas.Result.{err_from_is_err_and}
use Rattle.ct_io.proofs.BufferedLemmas.{stops_sooner, is_put_then}
use Rattle.std.proofs.Common.{length}
use Rattle.ct_rule_codes.specs.CodeEntry.{entry_of_code}
use Rattle.ct_replies.specs.Text.{code_heading, word_lines}
use Rattle.ct_replies.proofs.output.code.put_code.Goals as goal

pub returns-in_err-put_code_heading : goal.returns-in_err-put_code_heading
returns-in_err-put_code_heading g c =
    let code = c.args.code.now in
    let p = err_from_is_err_and c.from_residual.result c.from_residual.ensures.1 in
    rw p.1 (stops_sooner _ _ (code_heading (entry_of_code code) (length code.words)) (word_lines code.n code.words) c.in_err-put_code_heading.ensures)

pub returns : goal.returns
returns g c =
    let put = rw (c.n.ensures.value, c.words.ensures.value) at c.put_words.ensures in
    is_put_then _ _ _ (code_heading (entry_of_code c.args.code.now) (length c.args.code.now.words)) _ _ c.in_ok-put_code_heading.ensures put

pub put_words-requires-clause-words : goal.put_words-requires-clause-words
put_words-requires-clause-words g c = rw (c.n.ensures.value, c.words.ensures.value) c.words.ensures.sound.code.lengths
