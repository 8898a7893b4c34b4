use Rattle.std.proofs.Common.{◌≡◌, ℕ, ◌<◌, length, get_or}
use Rattle.ct_words.specs.Word.{digit}
use Rattle.ct_build.proofs.places.has_digits.Given as goal

-- so far each digit is the one that is given
abbrev pub invariant-loop-place : goal.invariant-loop-place
invariant-loop-place l = (k : ℕ) → k < length l.yielded → digit l.n l.word (get_or l.places k 0) ≡ get_or l.digits k 0
