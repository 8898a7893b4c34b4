use Rattle.std.proofs.Common.{◌≡◌, true, if◌then◌else◌, Some, None, sym, ap, subst, ◌∙◌}
use Rattle.std.specs.Prelude.{option_map}
use Rattle.std.proofs.lemmas.Option.{none-some, same_Some}
use Rattle.ct_rule_parts.specs.Entries.{listed}
use Rattle.ct_rule_parts.specs.Parts.{are_entries}
use Rattle.ct_rules.specs.Rule.{parts_over}
use Rattle.ct_rules.proofs.Applied.{defined}
use Rattle.ct_table.proofs.closing.premises_of.Goals as goal

pub rests_on-requires : goal.rests_on-requires
rests_on-requires c = (defined (parts_over c.args.supports.now c.args.rule) c.args.entry c.requires).entry

pub unreachable-requires : goal.unreachable-requires
unreachable-requires c =
    let parts = parts_over c.args.supports.now c.args.rule in
    let is = defined parts c.args.entry c.requires in
    none-some (parts.rests_on c.args.entry)
    (sym (ap (option_map listed) c.in_default.is) ∙ c.rests_on.ensures
    ∙ ap (λ b. if b then Some (parts.rests_on c.args.entry) else None) is.condition)

pub returns-clause-premises : goal.returns-clause-premises
returns-clause-premises c =
    let parts = parts_over c.args.supports.now c.args.rule in
    let is = defined parts c.args.entry c.requires in
    same_Some (listed c.in-Some.premises) (parts.rests_on c.args.entry)
    (sym (ap (option_map listed) c.in-Some.is) ∙ c.rests_on.ensures
    ∙ ap (λ b. if b then Some (parts.rests_on c.args.entry) else None) is.condition)

pub returns-clause-in_table : goal.returns-clause-in_table
returns-clause-in_table c =
    let parts = parts_over c.args.supports.now c.args.rule in
    let is = defined parts c.args.entry c.requires in
    let same =
    same_Some (listed c.in-Some.premises) (parts.rests_on c.args.entry)
    (sym (ap (option_map listed) c.in-Some.is) ∙ c.rests_on.ensures
    ∙ ap (λ b. if b then Some (parts.rests_on c.args.entry) else None) is.condition) in
    subst (λ es. are_entries es ≡ true) (sym same) is.premises
