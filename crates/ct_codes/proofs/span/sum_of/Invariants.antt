use Rattle.std.proofs.Common.{◌≡◌, drop, bit_xor}
use Rattle.ct_words.specs.Coset.{span_word}
use Rattle.ct_codes.proofs.span.sum_of.Given as goal

-- what the rest of the number chooses of the other basis words is left to add
abbrev pub invariant-loop-word : goal.invariant-loop-word
invariant-loop-word l = bit_xor l.sum (span_word (drop l.word-index l.basis) l.rest) ≡ span_word l.basis l.number
