use Rattle.ct_words.specs.declared.claim.Side.TheVariants.{Upper}
use Rattle.ct_slots.proofs.MarkedLemmas.{still_marked, both_sides}
use Rattle.ct_slots.proofs.unsettled.mark_unsettled.Goals as goal

pub returns-clause-marked : goal.returns-clause-marked
returns-clause-marked c =
    both_sides c.args.bounds.now c.mark_side-2.new.work c.in_ok-mark_side-2.ensures.marked
    (λ e entry. still_marked c.args.bounds.now c.mark_side.new.work c.mark_side-2.new.work (Upper, e) c.mark_side-2.ensures.kept
    (c.in_ok-mark_side.ensures.marked e entry))
