use Rattle.std.proofs.Common.{◌≡◌, ◌∙◌, ℕ, ◌<◌, length, Some, sym, ap, subst, option_map, slice_get}
use Rattle.ct_rule_parts.specs.Slot.{claim_at}
use Rattle.ct_rules.specs.Derivation.{LineValue, IsBest}
use Rattle.ct_table.specs.declared.table.Table.TheInside.{Inside}
use Rattle.ct_kept.specs.Kept.{reason_of}
use Rattle.ct_kept.proofs.KeptLemmas.{reason-within}
use Rattle.ct_table.specs.Table.{TableValue}
use Rattle.ct_table.proofs.CallLemmas.{read_reason}
use Rattle.ct_table.proofs.table.Table.reason.Goals as goal

pub returns-clause-claim : goal.returns-clause-claim
returns-clause-claim c =
    let t = c.self.inside in
    subst (λ (v : TableValue). (x : ℕ) × IsBest v.supports (c.args.side, c.args.entry) x
    × (option_map (λ (l : LineValue). l.claim) (slice_get v.lines c.reason.result) ≡ Some (claim_at (c.args.side, c.args.entry) x)))
    c.self.view_is
    (read_reason t.supports.items t.closing.kept t.base t.closing.work (c.args.side, c.args.entry) c.reason.result c.self.invariant.0
    c.requires
    (c.reason.ensures ∙ ap (λ (k : Inside). reason_of k.closing.kept (c.args.side, c.args.entry)) c.self-inside.view_is))

pub returns-clause-number : goal.returns-clause-number
returns-clause-number c =
    let t = c.self.inside in
    let is = c.reason.ensures ∙ ap (λ (k : Inside). reason_of k.closing.kept (c.args.side, c.args.entry)) c.self-inside.view_is in
    subst (λ (v : TableValue). c.reason.result < length v.lines) c.self.view_is
    (subst (λ n. n < length c.self.inside.closing.kept.lines) (sym is)
    (reason-within t.supports.items t.closing.kept (c.args.side, c.args.entry) c.self.invariant.0.kept c.requires))
