use Rattle.ct_words.proofs.Constructions.AppendLemmas.{digit-followed_before, digit-followed_last, weight-with_parity}
use Rattle.ct_words.proofs.Constructions.TranslationLemmas.{digit-all_ones}
use Rattle.ct_laws.proofs.math.constructions.digits_of_constructions.Goals as goal

pub returns : goal.returns
returns c = record { kept = digit-followed_before; last = digit-followed_last; parity = weight-with_parity; ones = digit-all_ones }
