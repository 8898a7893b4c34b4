use Rattle.std.proofs.Common.{◌*◌, nat_lt}
use Rattle.ct_words.specs.Word.{distance}
use Rattle.ct_codes.specs.Inside.Within.{IsLeastWithinOrNone}
use Rattle.ct_codes.proofs.pairs.first_close_pair.Given as goal

-- the least pair of the blocks so far
abbrev pub invariant-loop-block : goal.invariant-loop-block
invariant-loop-block l = IsLeastWithinOrNone (λ x y. nat_lt (distance 32 x y) l.d) l.words 0 (l.block * 64) l.least
