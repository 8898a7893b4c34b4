use Rattle.std.proofs.Common.{◌≡◌, ◌+◌, ◌<◌, ◌≤◌, sym, subst, ◌∙◌, inl, arith}
use Rattle.ct_slots.specs.Worklist.{WorkValue, IsMarked, waiting}
use Rattle.std.specs.Prelude.{◌⊎◌, if◌then◌else◌, slice_index_or, slice_set, ◌++◌, ◌∷◌, [], false, true}
use Rattle.std.proofs.lemmas.Option.{slice_get_read}
use Rattle.ct_slots.specs.Number.{slot_number}
use Rattle.ct_rule_parts.specs.Slot.{Slot}
use Rattle.ct_slots.proofs.WorklistLemmas.{IsSoundWork-marked, not_set, is_set, stays_set, was_set, waiting-set, slot_set, queue-marked, queue-unmarked}
use Rattle.ct_slots.proofs.worklist.Worklist.mark.Goals as goal

pub invariant_of-self-2 : goal.invariant_of-self-2
invariant_of-self-2 c =
    let work = c.self.inside in
    IsSoundWork-marked work.marks.items work.queue.items c.push_back.new.self.items (c.args.side, c.args.entry)
    c.slot_number-number.result c.self.invariant c.requires c.slot_number-number.ensures.number
    (not_set work.marks.items c.slot_number-number.result c.index.result.now c.if-index.false c.index.ensures)
    c.in_ok-push_back.ensures.items

pub returns-clause-marked : goal.returns-clause-marked
returns-clause-marked c =
    is_set c.self.inside.marks.items (c.args.side, c.args.entry) c.slot_number-number.result c.self.invariant.count c.requires
    c.slot_number-number.ensures.number

pub returns-clause-kept : goal.returns-clause-kept
returns-clause-kept c = λ t marked.
    let bound = c.slot_number-number.ensures.bound in
    let count = c.self.invariant.count in
    let set = rw (← c.self.view_is) at marked in
    stays_set c.self.inside.marks.items c.slot_number-number.result _ (omega arith) set

pub returns-clause-only : goal.returns-clause-only
returns-clause-only c = λ t entry marked.
    subst (λ (w : WorkValue). IsMarked w t ⊎ (t ≡ (c.args.side, c.args.entry))) c.self.view_is
    (was_set c.self.inside.marks.items (c.args.side, c.args.entry) t c.slot_number-number.result c.requires entry
    c.slot_number-number.ensures.number marked)

pub returns-clause-last : goal.returns-clause-last
returns-clause-last c =
    let work = c.self.inside in
    let s : Slot = (c.args.side, c.args.entry) in
    c.in_ok-push_back.ensures.items
    ∙ subst (λ (w : WorkValue). work.queue.items ++ s ∷ [] ≡ (if slice_index_or w.marks (slot_number s) false then w.queue else w.queue ++ s ∷ []))
    c.self.view_is
    (queue-unmarked work.marks.items work.queue.items s c.slot_number-number.result c.index.result.now c.slot_number-number.ensures.number c.if-index.false
    c.index.ensures)

pub returns-clause-one_more : goal.returns-clause-one_more
returns-clause-one_more c =
    let work = c.self.inside in
    let bound = c.slot_number-number.ensures.bound in
    let count = c.self.invariant.count in
    let number = c.slot_number-number.result in
    let more = c.push_back.new.self.items in
    subst (λ (w : WorkValue). waiting (record { marks = slice_set work.marks.items number true; queue = more }) ≤ waiting w + 1) c.self.view_is
    (waiting-set work.marks.items work.queue.items more number (omega arith))

pub index-requires : goal.index-requires
index-requires c =
    let bound = c.slot_number-number.ensures.bound in
    let count = c.self.invariant.count in
    subst (λ n. c.slot_number-number.result < n) (sym c.self.inside.marks.ok.0) (omega arith)

pub index_mut-requires : goal.index_mut-requires
index_mut-requires c =
    let bound = c.slot_number-number.ensures.bound in
    let count = c.self.invariant.count in
    subst (λ n. c.slot_number-number.result < n) (sym c.self.inside.marks.ok.0) (omega arith)

-- where it is marked already
pub returns-then-index : goal.returns-then-index
returns-then-index c =
    let work = c.self.inside in
    let s : Slot = (c.args.side, c.args.entry) in
    let number = c.slot_number-number.result in
    let bound = c.slot_number-number.ensures.bound in
    let count = c.self.invariant.count in
    let inside : number < work.marks.len = subst (λ n. number < n) (sym work.marks.ok.0) (omega arith) in
    let read = slice_get_read work.marks.items work.marks.len number c.index.result.now work.marks.ok.0 inside c.index.ensures in
    let set = slot_set work.marks.items s number c.index.result.now read c.if-index.true c.slot_number-number.ensures.number in
    let marked = subst (λ (w : WorkValue). IsMarked w s) c.self.view_is set in
    record {
      marked = marked;
      kept = λ t before. before;
      only = λ t entry now. inl now;
      unchanged = tt;
      last = queue-marked c.args.self.now s marked;
      one_more = omega arith;
    }
