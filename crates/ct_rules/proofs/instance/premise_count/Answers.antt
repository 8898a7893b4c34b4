use Rattle.std.proofs.Common.{List, length, Some, sym, ap, ◌∙◌}
use Rattle.ct_words.specs.declared.entry.Entry.{Entry}
use Rattle.ct_rules.proofs.Applied.{defined_entries, count-given}
use Rattle.ct_rules.proofs.instance.premise_count.Goals as goal

pub returns-clause-count : goal.returns-clause-count
returns-clause-count c =
    let a = c.args in
    let on = defined_entries a.supports.now a.rule a.entry c.defined_on.result c.in_ok-entries.entries c.defined_on.ensures c.in_ok-entries.was in
    ap Some (c.len.ensures.count ∙ ap (λ (es : List Entry). length es) (sym on.1)) ∙ sym (count-given a.supports.now a.rule a.entry on.0)
