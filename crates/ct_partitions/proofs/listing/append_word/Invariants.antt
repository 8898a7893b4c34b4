use Rattle.std.proofs.Common.{◌≡◌, ◌++◌, map, take}
use Rattle.ct_words.specs.Constructions.Joined.{followed_by}
use Rattle.ct_partitions.proofs.listing.append_word.Given as goal

abbrev pub invariant-loop-y : goal.invariant-loop-y
invariant-loop-y l = l.words.items ≡ l.fn.words.items ++ map (λ y. followed_by l.m l.x y) (take l.y-index l.second)
