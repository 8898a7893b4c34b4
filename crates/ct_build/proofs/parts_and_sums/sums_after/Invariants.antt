use Rattle.std.proofs.Common.{◌≡◌, map, take, bit_xor}
use Rattle.ct_words.specs.Constructions.Joined.{followed_by}
use Rattle.ct_build.proofs.parts_and_sums.sums_after.Given as goal

abbrev pub invariant-loop-v : goal.invariant-loop-v
invariant-loop-v l = l.words.items ≡ map (λ v. followed_by l.n l.u (bit_xor l.u v)) (take l.v-index l.vs)
