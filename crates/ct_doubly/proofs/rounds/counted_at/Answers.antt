-- What is left at the place is what the code took.
use Rattle.std.proofs.Common.{ap, ◌∙◌, arith}
use Rattle.std.proofs.lemmas.Option.{same_Some, none-some}
use Rattle.ct_doubly.specs.declared.parts.Parts.{Parts}
use Rattle.ct_doubly.specs.Doubly.{counted_bound, doubly_after}
use Rattle.ct_doubly.proofs.rounds.counted_at.Goals as goal

pub returns-in-Some-clause-value : goal.returns-in-Some-clause-value
unfolding doubly_after
returns-in-Some-clause-value c = λ a b c' e at few ones zeros last_ones last_zeros.
    let left = same_Some _ _ (c.in-Some.ensures.value a b c' e at (omega arith) (omega arith) ones zeros last_ones last_zeros) in
    c.counted_bound.ensures.value ∙ ap (λ (p : Parts). counted_bound p.n1 p.w1 p.n2 p.w2 c.args.d) left

pub returns-in-None-clause-value : goal.returns-in-None-clause-value
returns-in-None-clause-value c = λ a b c' e at few ones zeros last_ones last_zeros.
    absurd (none-some _ (c.in-None.ensures.value a b c' e at (omega arith) (omega arith) ones zeros last_ones last_zeros))
