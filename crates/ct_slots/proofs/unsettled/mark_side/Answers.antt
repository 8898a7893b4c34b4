use Rattle.ct_words.specs.Entry.{constant_weight}
use Rattle.ct_slots.proofs.MarkedLemmas.{still_marked, each_entry}
use Rattle.ct_slots.proofs.unsettled.mark_side.Goals as goal

pub returns-clause-marked : goal.returns-clause-marked
returns-clause-marked c =
    let bounds = c.args.bounds.now in
    let middle = c.mark_with_weight.new.work in
    let last = c.mark_without_weight.new.work in
    each_entry bounds last c.args.side
    (λ d far near even n w some few fits.
    still_marked bounds middle last (c.args.side, constant_weight n d w) c.mark_without_weight.ensures.kept
    (c.in_ok-mark_with_weight.ensures.marked d far near even n w some few fits))
    c.in_ok-mark_without_weight.ensures.marked
