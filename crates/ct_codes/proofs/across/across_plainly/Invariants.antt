use Rattle.std.proofs.Common.{nat_lt}
use Rattle.ct_words.specs.Word.{distance}
use Rattle.ct_codes.specs.Inside.Across.{NoneAcross}
use Rattle.ct_codes.proofs.across.across_plainly.Given as goal

-- no word so far is close to a later one
abbrev pub invariant-loop-place : goal.invariant-loop-place
invariant-loop-place l = NoneAcross (λ x y. nat_lt (distance 32 x y) l.d) l.words l.later l.place
