use Rattle.std.proofs.Common.{◌≡◌, ℕ, ◌+◌, ◌<◌, get_or}
use Rattle.ct_words.specs.Word.{digit}
use Rattle.ct_words.proofs.text.print_word.Given as goal

abbrev pub invariant-loop-place : goal.invariant-loop-place
invariant-loop-place l = (p : ℕ) → p < l.place → get_or l.into p 0 ≡ 48 + digit l.n l.word p
