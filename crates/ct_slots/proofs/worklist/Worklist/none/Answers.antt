use Rattle.std.proofs.Common.{List, sym, subst}
use Rattle.ct_rule_parts.specs.Slot.{Slot}
use Rattle.ct_slots.specs.Worklist.{IsSoundWork}
use Rattle.ct_slots.proofs.WorklistLemmas.{IsSoundWork-none, IsIdle-none}
use Rattle.ct_slots.proofs.worklist.Worklist.none.Goals as goal

pub invariant_of-result : goal.invariant_of-result
invariant_of-result c =
    let marks = c.in_ok-vec.field-0.items in
    subst (λ (queue : List Slot). IsSoundWork (record { marks = marks; queue = queue })) (sym c.new.ensures.items)
    (IsSoundWork-none marks (c.in_ok-vec.ensures.items_if_clones_equal (λ y same. same)))

pub returns-clause-idle : goal.returns-clause-idle
returns-clause-idle c = IsIdle-none c.in_ok-vec.field-0.items c.new.result.items (c.in_ok-vec.ensures.items_if_clones_equal (λ y same. same))
