use Rattle.std.proofs.Common.{◌≡◌, ◌++◌, length, map, drop}
use Rattle.toml.specs.Data.{string}
use Rattle.toml.specs.View.{view}
use Rattle.ct_words.specs.Text.{word_text}
use Rattle.ct_fields.proofs.Reserved.{HasRoom}
use Rattle.ct_fields.proofs.writing.word_values.Given as goal

abbrev pub invariant-loop-word : goal.invariant-loop-word
invariant-loop-word l =
    (map view l.values.items ++ map (λ x. string (word_text l.n x)) (drop l.word-index l.words)
    ≡ map (λ x. string (word_text l.n x)) l.words)
    × HasRoom l.values l.word-index (length l.words)
