use Rattle.std.proofs.Common.{ℕ, List, sym, subst}
use Rattle.std.specs.Prelude.{OnOk}
use Rattle.ct_rules.specs.Closed.{AreTrue}
use Rattle.ct_slots.specs.Number.{bound_of}
use Rattle.ct_offers.specs.Inside.Marking.{AreTested}
use Rattle.ct_table.proofs.closing.mark_from.Goals as goal

pub mark_dependents-requires-clause-true_bounds : goal.mark_dependents-requires-clause-true_bounds
mark_dependents-requires-clause-true_bounds c =
    subst (λ (bounds : List ℕ). AreTrue (bound_of bounds)) (sym c.bounds.ensures) c.requires.true_bounds

pub returns-clause-tested : goal.returns-clause-tested
returns-clause-tested c =
    subst (λ (bounds : List ℕ). OnOk c.mark_dependents.result (AreTested c.args.supports.now bounds c.mark_dependents.new.work (c.args.side, c.args.entry)))
    c.bounds.ensures c.mark_dependents.ensures.tested
