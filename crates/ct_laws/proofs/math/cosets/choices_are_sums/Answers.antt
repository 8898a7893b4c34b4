use Rattle.ct_words.proofs.WordLemmas.{IsSum-bit_xor}
use Rattle.ct_codes.proofs.SpanLemmas.{span_word-zero, span_word-one, span_word-sum, choice_word-at}
use Rattle.ct_laws.proofs.math.cosets.choices_are_sums.Goals as goal

pub returns : goal.returns
returns c = record { sum = IsSum-bit_xor; none = span_word-zero; one = span_word-one; both = span_word-sum; choice = choice_word-at }
