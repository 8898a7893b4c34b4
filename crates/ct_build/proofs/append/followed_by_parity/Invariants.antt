use Rattle.std.proofs.Common.{◌≡◌, take}
use Rattle.ct_words.specs.Constructions.Append.{with_parity}
use Rattle.ct_build.proofs.append.followed_by_parity.Given as goal

abbrev pub invariant-loop-word : goal.invariant-loop-word
invariant-loop-word l = l.longer.items ≡ with_parity l.part.n (take l.word-index l.words)
