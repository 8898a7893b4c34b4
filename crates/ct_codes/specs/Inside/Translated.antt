-- The words of one representative.
use Rattle.std.specs.Prelude.{ℕ, ◌^◌, bit_xor, List, length}
use Rattle.ct_words.specs.Text.{tabulate}
use Rattle.ct_words.specs.Coset.{span_word}

-- the word x plus each sum of basis words, in the order of the choices
abbrev pub translated : List ℕ → ℕ → List ℕ
translated basis x = tabulate (λ s. bit_xor x (span_word basis s)) (2 ^ length basis)
