use Rattle.ct_words.proofs.Constructions.EvenLemmas.{IsCode-even_words, length-even_words, even_words-suc}
use Rattle.ct_laws.proofs.math.constructions.even_words_are_a_code.Goals as goal

pub returns : goal.returns
returns c = record { code = IsCode-even_words; size = length-even_words; parities = even_words-suc }
