use Rattle.std.proofs.Common.{◌≡◌, ℕ, ◌<◌, Some, length}
use Rattle.std.specs.List.{slice_get}
use Rattle.ct_words.specs.Text.{word_text}
use Rattle.ct_replies.proofs.output.word_lines.eight_digits.Given as goal

abbrev pub invariant-loop-word : goal.invariant-loop-word
invariant-loop-word l = (length l.texts ≡ 256) × ((x : ℕ) → x < l.word → slice_get l.texts x ≡ Some (word_text 8 x))
