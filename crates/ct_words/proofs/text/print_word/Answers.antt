use Rattle.std.proofs.Common.{arith}
use Rattle.ct_words.proofs.TextLemmas.{text_from_places}
use Rattle.ct_words.proofs.text.print_word.Goals as goal

pub returns : goal.returns
returns c = text_from_places c.args.n c.args.word c.loop-place.into (omega arith) (λ p h. c.loop-place.invariant p (omega arith))
