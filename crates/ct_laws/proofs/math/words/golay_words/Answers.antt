use Rattle.std.proofs.Common.{refl}
use Rattle.ct_words.specs.Word.{distance, weight}
use Rattle.ct_words.specs.Text.{word_text}
use Rattle.ct_laws.proofs.math.words.golay_words.Goals as goal

pub returns : goal.returns
unfolding distance weight word_text
returns c = record { first = refl; second = refl; apart = refl; weights = (refl, refl) }
