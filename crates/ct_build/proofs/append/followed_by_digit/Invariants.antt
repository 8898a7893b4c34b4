use Rattle.std.proofs.Common.{◌≡◌, map, take}
use Rattle.ct_words.specs.Constructions.Joined.{followed_by}
use Rattle.ct_build.proofs.append.followed_by_digit.Given as goal

abbrev pub invariant-loop-word : goal.invariant-loop-word
invariant-loop-word l = l.longer.items ≡ map (λ x. followed_by 1 x l.digit) (take l.word-index l.words)
