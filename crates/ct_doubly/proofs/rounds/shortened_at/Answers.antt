-- The four bounds of one round more, over what is left at the place.
use Rattle.std.proofs.Common.{ℕ, suc, ◌+◌, ◌-◌, get_or, sym, ap, ◌∙◌, arith}
use Rattle.std.proofs.lemmas.Option.{same_Some, none-some}
use Rattle.ct_doubly.specs.declared.parts.Parts.{Parts}
use Rattle.ct_doubly.specs.Doubly.{shortened_bound, doubly_after}
use Rattle.ct_doubly.proofs.Tables.{one_round}
use Rattle.ct_doubly.proofs.rounds.shortened_at.Goals as goal

pub returns-in_default-clause-value : goal.returns-in_default-clause-value
returns-in_default-clause-value c = λ s d is a b c' e at few ones zeros last_ones last_zeros.
    absurd (none-some _ (c.in_default.ensures.value a b c' e at (omega arith) (omega arith) ones zeros last_ones last_zeros))

pub returns-clause-value : goal.returns-clause-value
returns-clause-value c = λ s d is a b c' e at few ones zeros last_ones last_zeros.
    let left = c.in-Some.left in
    let left_is = same_Some _ _ (c.in-Some.ensures.value a b c' e at (omega arith) (omega arith) ones zeros last_ones last_zeros) in
    let table = c.args.table.now in
    let place = c.args.place in
    c.shortened_bound.ensures.value
    ∙ ap (λ (u : ℕ). shortened_bound left.n1 left.w1 (get_or table (place + 64) 0) u)
    (c.shortened_bound-bound-3.ensures.value ∙ ap (λ (u : ℕ). shortened_bound left.n1 (left.n1 - left.w1) (get_or table (place + 16) 0) u)
    (c.shortened_bound-bound-2.ensures.value ∙ ap (λ (u : ℕ). shortened_bound left.n2 left.w2 (get_or table (place + 4) 0) u)
    c.shortened_bound-bound.ensures.value))
    ∙ one_round s d c.args.parts table place c.requires.place is a b c' e at few ones zeros last_ones last_zeros left.n1 left.w1 left.n2 left.w2
    (sym (ap (λ (p : Parts). p.n1) left_is)) (sym (ap (λ (p : Parts). p.w1) left_is)) (sym (ap (λ (p : Parts). p.n2) left_is))
    (sym (ap (λ (p : Parts). p.w2) left_is)) c.requires.first c.requires.last
    ∙ ap (λ (p : Parts). doubly_after (suc s) p.n1 p.w1 p.n2 p.w2 d) left_is
