use Rattle.std.proofs.Common.{sym}
use Rattle.ct_laws.proofs.Mathematics.OrderLemmas.{cmp-word_text}
use Rattle.ct_laws.proofs.math.words.words_are_ordered_as_texts.Goals as goal

pub returns : goal.returns
returns c = λ n x y below_x below_y. sym (cmp-word_text n x y below_x below_y)
