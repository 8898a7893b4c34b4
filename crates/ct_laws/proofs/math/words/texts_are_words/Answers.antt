use Rattle.std.proofs.Common.{◌∙◌, ap}
use Rattle.ct_words.specs.Text.{word_of}
use Rattle.ct_words.proofs.TextLemmas.{word_of-word_text, word_from_text}
use Rattle.ct_laws.proofs.math.words.texts_are_words.Goals as goal

pub returns : goal.returns
returns c = λ n x text. (word_from_text n x text, λ h. ap (word_of n) h.1 ∙ word_of-word_text n x h.0)
