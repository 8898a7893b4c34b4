use Rattle.ct_words.proofs.Constructions.TranslationLemmas.{IsCode-translated, IsCode-complemented, IsCode-selected}
use Rattle.ct_laws.proofs.math.constructions.translated_words_are_codes.Goals as goal

pub returns : goal.returns
returns c = record { translate = IsCode-translated; complement = IsCode-complemented; select = IsCode-selected }
