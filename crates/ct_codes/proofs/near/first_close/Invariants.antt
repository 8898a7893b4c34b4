use Rattle.std.proofs.Common.{◌≡◌, ℕ, ◌*◌, ◌<◌, false, nat_lt, get_or}
use Rattle.ct_words.specs.Word.{distance}
use Rattle.ct_codes.proofs.near.first_close.Given as goal

-- no word of the blocks so far is close
abbrev pub invariant-loop-block : goal.invariant-loop-block
invariant-loop-block l = (k : ℕ) → k < 8 * l.block → nat_lt (distance 32 l.word (get_or l.others k 0)) l.d ≡ false
