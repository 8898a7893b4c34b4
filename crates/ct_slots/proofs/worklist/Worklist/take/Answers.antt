use Rattle.std.proofs.Common.{◌<◌, List, refl, ap, sym, subst, ◌∙◌, arith}
use Rattle.ct_rule_parts.specs.Slot.{Slot}
use Rattle.ct_slots.specs.Number.{slot_number}
use Rattle.ct_slots.specs.Worklist.{WorkValue, IsMarked, IsIdle, IsSoundWork, waiting}
use Rattle.ct_slots.proofs.WorklistLemmas.{IsSoundWork-taken, is_unset, others_set, set_before, waiting-unset, IsIdle-empty, head_entry, head_marked}
use Rattle.ct_slots.proofs.worklist.Worklist.take.Goals as goal

pub invariant_of-self-2 : goal.invariant_of-self-2
invariant_of-self-2 c =
    let work = c.self.inside in
    IsSoundWork-taken work.marks.items work.queue.items c.pop_front.new.self.items (c.in_ok-side.side, c.in_ok-side.entry)
    c.slot_number.result c.self.invariant c.slot_number.ensures.number c.in_ok-side.ensures.items

pub returns-clause-taken : goal.returns-clause-taken
returns-clause-taken c = λ marked.
    is_unset c.self.inside.marks.items (c.in_ok-side.side, c.in_ok-side.entry) c.slot_number.result c.self.invariant.count (head_entry c.self.inside.marks.items c.self.inside.queue.items c.pop_front.new.self.items (c.in_ok-side.side, c.in_ok-side.entry) c.self.invariant c.in_ok-side.ensures.items)
    c.slot_number.ensures.number marked

pub returns-clause-others : goal.returns-clause-others
returns-clause-others c = λ t entry other marked.
    let set = rw (← c.self.view_is) at marked in
    others_set c.self.inside.marks.items (c.in_ok-side.side, c.in_ok-side.entry) t c.slot_number.result (head_entry c.self.inside.marks.items c.self.inside.queue.items c.pop_front.new.self.items (c.in_ok-side.side, c.in_ok-side.entry) c.self.invariant c.in_ok-side.ensures.items) entry
    c.slot_number.ensures.number other set

pub returns-clause-only : goal.returns-clause-only
returns-clause-only c = λ t marked.
    let bound = c.slot_number.ensures.bound in
    let count = c.self.invariant.count in
    subst (λ (w : WorkValue). IsMarked w t) c.self.view_is
    (set_before c.self.inside.marks.items c.slot_number.result _ (omega arith) marked)

pub returns-clause-one_less : goal.returns-clause-one_less
returns-clause-one_less c =
    let bound = c.slot_number.ensures.bound in
    let count = c.self.invariant.count in
    waiting-unset c.self.inside.marks.items c.self.inside.queue.items c.pop_front.new.self.items c.slot_number.result (omega arith)
    (head_marked c.self.inside.marks.items c.self.inside.queue.items c.pop_front.new.self.items (c.in_ok-side.side, c.in_ok-side.entry)
    c.slot_number.result c.self.invariant c.in_ok-side.ensures.items c.slot_number.ensures.number)
    ∙ ap waiting c.self.view_is

pub returns-clause-entry : goal.returns-clause-entry
returns-clause-entry c =
    let work = c.self.inside in
    head_entry work.marks.items work.queue.items c.pop_front.new.self.items (c.in_ok-side.side, c.in_ok-side.entry) c.self.invariant
    c.in_ok-side.ensures.items

pub returns-clause-was_marked : goal.returns-clause-was_marked
returns-clause-was_marked c =
    let work = c.self.inside in
    let s : Slot = (c.in_ok-side.side, c.in_ok-side.entry) in
    subst (λ (w : WorkValue). IsMarked w s) c.self.view_is
    (head_marked work.marks.items work.queue.items c.pop_front.new.self.items s (slot_number s) c.self.invariant c.in_ok-side.ensures.items refl)

pub returns-clause-first : goal.returns-clause-first
returns-clause-first c = ap (λ (w : WorkValue). w.queue) (sym c.self.view_is) ∙ c.in_ok-side.ensures.items

pub slot_number-requires : goal.slot_number-requires
slot_number-requires c =
    let work = c.self.inside in
    head_entry work.marks.items work.queue.items c.pop_front.new.self.items (c.in_ok-side.side, c.in_ok-side.entry) c.self.invariant
    c.in_ok-side.ensures.items

pub index_mut-requires : goal.index_mut-requires
index_mut-requires c =
    let bound = c.slot_number.ensures.bound in
    let count = c.self.invariant.count in
    subst (λ n. c.slot_number.result < n) (sym c.self.inside.marks.ok.0) (omega arith)

-- where none is left
pub invariant_of-self : goal.invariant_of-self
invariant_of-self c =
    let marks = c.self.inside.marks.items in
    subst (λ (queue : List Slot). IsSoundWork (record { marks = marks; queue = queue })) c.in_err-side.ensures.items c.self.invariant

pub returns-in_err-side-clause-idle : goal.returns-in_err-side-clause-idle
returns-in_err-side-clause-idle c =
    let work = c.self.inside in
    rw c.from_residual.ensures
    (subst IsIdle c.self.view_is
    (IsIdle-empty work.marks.items work.queue.items c.pop_front.new.self.items c.self.invariant c.in_err-side.ensures.items c.in_err-side.ensures.rest))

pub returns-in_err-side-clause-unchanged : goal.returns-in_err-side-clause-unchanged
returns-in_err-side-clause-unchanged c =
    let marks = c.self.inside.marks.items in
    rw c.from_residual.ensures
    (ap (λ (queue : List Slot). record { marks = marks; queue = queue }) (sym c.in_err-side.ensures.items) ∙ c.self.view_is)

pub returns-in_err-side-clause-only : goal.returns-in_err-side-clause-only
returns-in_err-side-clause-only c = λ t marked. subst (λ (w : WorkValue). IsMarked w t) c.self.view_is marked
