use Rattle.std.proofs.Common.{ℕ, List, subst}
use Rattle.ct_words.specs.Entry.{IsEntry}
use Rattle.ct_rule_parts.specs.Slot.{Slot}
use Rattle.ct_slots.specs.Worklist.{IsMarkedOrSettled}
use Rattle.ct_table.proofs.TurnLemmas.{pending_started}
use Rattle.ct_table.proofs.closing.Closing.start.Goals as goal

pub returns-clause-pending : goal.returns-clause-pending
returns-clause-pending c = λ supports stand.
    pending_started supports c.in_ok-kept.kept c.mark_unsettled.new.work stand (c.in_ok-kept.ensures.kept supports)
    (subst (λ (bounds : List ℕ). (s : Slot) → IsEntry s.1 → IsMarkedOrSettled bounds c.mark_unsettled.new.work s) c.bounds.ensures
    c.in_ok-mark_unsettled.ensures.marked)
