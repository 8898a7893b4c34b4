use Rattle.std.proofs.Common.{◌*◌, nat_lt}
use Rattle.ct_words.specs.Word.{distance}
use Rattle.ct_codes.proofs.CosetLemmas.{NoneBefore}
use Rattle.ct_codes.proofs.choices.close_choices.Given as goal

-- no choice of an earlier representative is close to a later one
abbrev pub invariant-loop-place : goal.invariant-loop-place
invariant-loop-place l = NoneBefore (λ x y. nat_lt (distance 32 x y) l.d) l.words (l.place * l.span)
