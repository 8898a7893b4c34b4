use Rattle.std.proofs.Common.{◌≡◌, length, take}
use Rattle.ct_words.specs.Constructions.Juxtaposed.{juxtaposed}
use Rattle.ct_build.proofs.juxtaposed.joined_words.Given as goal

abbrev pub invariant-loop-x : goal.invariant-loop-x
invariant-loop-x l = l.words.items ≡ juxtaposed l.m (take (length l.yielded) l.first) (take (length l.yielded) l.second)
