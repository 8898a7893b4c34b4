-- What a dual rests on is in the table.
use Rattle.std.proofs.Common.{ap, sym, ◌∙◌, le-leb}
use Rattle.ct_words.specs.declared.limits.TheConstants.{MAX_N}
use Rattle.ct_duals.specs.Bound.{dual_premises}
use Rattle.ct_rule_parts.specs.declared.entries.Entries.{Entries}
use Rattle.ct_rule_parts.specs.Entries.{listed}
use Rattle.ct_rule_parts.specs.Parts.{are_entries}
use Rattle.ct_rule_parts.proofs.DualLemmas.{are_entries-from_All}
use Rattle.ct_rule_parts.proofs.entries.Entries.are_in_table.Goals as goal

pub returns-in-OfDual : goal.returns-in-OfDual
returns-in-OfDual c =
    le-leb c.premise_count.result MAX_N c.premise_count.ensures.few
    ∙ sym (are_entries-from_All (dual_premises c.in-OfDual.dual.now.dual) c.premise_count.ensures.entries)
    ∙ ap (λ (es : Entries). are_entries (listed es)) (sym c.in-OfDual.is)
