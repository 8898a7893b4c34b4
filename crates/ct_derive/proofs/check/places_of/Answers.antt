use Rattle.std.proofs.Common.{ℕ, ◌-◌, List, map, ap, ◌∙◌}
use Rattle.std.proofs.lemmas.List.{take_all}
use Rattle.ct_derive.proofs.ListedItems.{listed_more}
use Rattle.ct_derive.proofs.check.places_of.Goals as goal

pub loop-number-init : goal.loop-number-init
loop-number-init c = c.new-places.ensures.items

pub loop-number-preserved : goal.loop-number-preserved
loop-number-preserved c =
    listed_more (λ (n : ℕ). n - 1) c.args.numbers.now c.loop-number.number-index 0 c.loop-number.places.items c.push.new.self.items c.saturating_sub.result
    c.loop-number-test.true c.in_ok-push.ensures.ok c.loop-number.invariant c.saturating_sub.ensures

pub returns : goal.returns
returns c =
    c.loop-number.invariant
    ∙ ap (λ (ns : List ℕ). map (λ (n : ℕ). n - 1) ns) (take_all c.loop-number.number-index c.args.numbers.now c.loop-number-test.false)
