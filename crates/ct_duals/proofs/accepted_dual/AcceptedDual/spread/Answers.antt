-- f adds up to at most its spread for each word, as it does for the same dual where it was accepted.
use Rattle.std.proofs.Common.{sym, subst, ℤ}
use Rattle.std.proofs.lemmas.Int.{to_z-of_z}
use mir.Val.{SFits, to_z, of_z}
use mir.Syntax.{w128}
use Rattle.ct_words.specs.Numbers.{numbers_of, combination}
use Rattle.ct_duals.specs.Bound.{AcceptedValue, AreTrueUppers, dual_premises, IsSpread}
use Rattle.ct_duals.proofs.accepted_dual.AcceptedDual.spread.Goals as goal

pub returns-clause-pairs : goal.returns-clause-pairs
returns-clause-pairs c =
    let us = c.args.uppers.now in
    let g : SFits w128 c.spread.result = record { sfits = c.spread.type_inv } in
    let At : ℤ → AcceptedValue → Type 0 = λ z v. AreTrueUppers (dual_premises v.dual) us → IsSpread v.dual.entry (combination (numbers_of v.dual.entry) v.dual.c) z in
    let Is : AcceptedValue → Type 0 = At (to_z w128 (of_z w128 c.spread.result)) in
    let first : Is c.new.result = subst (λ (z : ℤ). At z c.new.result) (sym (to_z-of_z w128 c.spread.result g)) c.spread.ensures.pairs in
    subst Is c.self.view_is (subst Is c.new.ensures.value first)
