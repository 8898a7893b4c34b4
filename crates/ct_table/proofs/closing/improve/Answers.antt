use Rattle.std.proofs.Common.{map, ◌∙◌}
use Rattle.std.proofs.lemmas.Result.{on_ok_weaker}
use Rattle.ct_rule_parts.specs.Parts.{slots_on}
use Rattle.ct_rule_parts.specs.Slot.{claim_at}
use Rattle.ct_kept.specs.Kept.{reason_of, with_line_put}
use Rattle.ct_table.proofs.closing.improve.Goals as goal

pub returns-clause-improved : goal.returns-clause-improved
returns-clause-improved c =
    let from =
    c.in_ok-from.ensures
    ∙ (λ i. map (reason_of c.args.kept.now) (slots_on (c.rule_side-side.ensures i) (c.premises_of-premises.ensures.premises i))) in
    on_ok_weaker c.put.result
    (λ put. put
    ∙ (λ i. with_line_put c.args.kept.now
    (record { claim = claim_at (c.rule_side-side.ensures i, c.args.entry) c.args.value; rule = c.args.rule; from = from i })))
    c.put.ensures.put
