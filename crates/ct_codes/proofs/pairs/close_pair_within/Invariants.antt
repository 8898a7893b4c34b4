use Rattle.std.proofs.Common.{nat_lt}
use Rattle.ct_words.specs.Word.{distance}
use Rattle.ct_codes.specs.Inside.Within.{NoneWithin}
use Rattle.ct_codes.proofs.pairs.close_pair_within.Given as goal

-- no word so far is close to a later one
abbrev pub invariant-loop-i : goal.invariant-loop-i
invariant-loop-i l = NoneWithin (λ x y. nat_lt (distance 32 x y) l.d) l.words l.start l.i l.end
