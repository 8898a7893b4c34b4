use Rattle.std.proofs.lemmas.List.{length-take-le}
use Rattle.ct_words.proofs.Constructions.AppendLemmas.{length-lengthened, length-one_appended, length-with_parity}
use Rattle.ct_words.proofs.Constructions.TranslationLemmas.{length-translated, length-complemented}
use Rattle.ct_laws.proofs.math.constructions.sizes_of_constructions.Goals as goal

pub returns : goal.returns
returns c = record {
  lengthen = length-lengthened;
  append_one = length-one_appended;
  parity = length-with_parity;
  translate = length-translated;
  complement = length-complemented;
  trim = λ size words few. length-take-le size words few;
}
