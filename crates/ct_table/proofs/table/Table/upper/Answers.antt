use Rattle.std.proofs.Common.{◌∙◌, ap, subst}
use Rattle.ct_words.specs.declared.claim.Side.TheVariants.{Upper}
use Rattle.ct_rules.specs.Derivation.{IsBest}
use Rattle.ct_table.specs.declared.table.Table.TheInside.{Inside}
use Rattle.ct_slots.specs.Number.{bound_of}
use Rattle.ct_table.specs.Table.{TableValue}
use Rattle.ct_table.proofs.CallLemmas.{read_best, read_true}
use Rattle.ct_table.proofs.table.Table.upper.Goals as goal

pub returns-clause-best : goal.returns-clause-best
returns-clause-best c =
    let t = c.self.inside in
    subst (λ (v : TableValue). IsBest v.supports (Upper, c.args.entry) c.bound.result) c.self.view_is
    (read_best t.supports.items t.closing.kept t.base t.closing.work (Upper, c.args.entry) c.bound.result c.self.invariant.0 c.requires
    (c.bound.ensures ∙ ap (λ (k : Inside). bound_of k.closing.kept.bounds (Upper, c.args.entry)) c.self-inside.view_is))

pub returns-clause-holds : goal.returns-clause-holds
returns-clause-holds c =
    let t = c.self.inside in
    read_true t.supports.items t.closing.kept t.base t.closing.work (Upper, c.args.entry) c.bound.result c.self.invariant.0 c.requires
    (c.bound.ensures ∙ ap (λ (k : Inside). bound_of k.closing.kept.bounds (Upper, c.args.entry)) c.self-inside.view_is)
