use Rattle.std.proofs.Common.{◌≡◌, ◌^◌, ◌++◌, bit_xor}
use Rattle.ct_words.specs.Text.{tabulate}
use Rattle.ct_words.specs.Coset.{span_word}
use Rattle.ct_codes.proofs.choices.append_translated.Given as goal

-- the sums of the word with those of the first basis words
abbrev pub invariant-loop-basis_word : goal.invariant-loop-basis_word
invariant-loop-basis_word l =
    l.words.items ≡ l.fn.words.items ++ tabulate (λ s. bit_xor l.word (span_word l.basis s)) (2 ^ l.basis_word-index)
