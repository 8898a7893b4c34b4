use Rattle.std.proofs.Common.{refl}
use Rattle.ct_text.specs.Line.{words_of}
use Rattle.ct_text.specs.Number.{number_of}
use Rattle.ct_words.specs.Word.{weight, distance}
use Rattle.ct_words.specs.Check.{code_fault}
use Rattle.ct_laws.proofs.OnLiterals.{evidence_on_literals}
use Rattle.ct_commands.specs.Form.{form_of}
use Rattle.ct_piece.specs.Submission.{submitted}
use Rattle.ct_laws.proofs.laws.known_word_supports.Goals as goal

pub returns : goal.returns
unfolding form_of words_of number_of submitted code_fault weight distance evidence_on_literals
returns c = refl
