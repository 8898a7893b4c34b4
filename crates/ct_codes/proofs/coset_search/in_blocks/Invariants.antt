use Rattle.std.proofs.Common.{◌*◌, ◌^◌, nat_lt, length}
use Rattle.ct_words.specs.Word.{distance}
use Rattle.ct_words.specs.Coset.{coset_list}
use Rattle.ct_codes.proofs.CosetLemmas.{NoneBefore}
use Rattle.ct_codes.proofs.coset_search.in_blocks.Given as goal

-- no choice of an earlier representative is close to a later one
abbrev pub invariant-loop-place : goal.invariant-loop-place
invariant-loop-place l = NoneBefore (λ x y. nat_lt (distance 32 x y) l.d) (coset_list l.basis l.representatives) (l.place * 2 ^ length l.basis)
