-- One more reason.
use Rattle.std.proofs.Common.{◌<◌, ◌≤◌, map, take_all, sym, ap, subst, ◌∙◌}
use Rattle.std.proofs.lemmas.Option.{none-some}
use Rattle.ct_rule_parts.specs.Entries.{listed}
use Rattle.ct_rule_parts.specs.Parts.{slots_on}
use Rattle.ct_rules.proofs.Applied.{entries_at}
use Rattle.ct_kept.specs.Kept.{reason_of}
use Rattle.ct_offers.proofs.RowLemmas.{pushed_more}
use Rattle.ct_table.proofs.WalkLemmas.{item_there}
use Rattle.ct_table.proofs.closing.reasons.Goals as goal

pub reason-requires-in-loop-place : goal.reason-requires-in-loop-place
reason-requires-in-loop-place c =
    entries_at (listed c.args.entries) c.loop-place.place c.in-Some.entry c.requires (sym c.get.ensures ∙ c.in-Some.is)

pub loop-place-preserved : goal.loop-place-preserved
loop-place-preserved c =
    c.in_ok-push.ensures.ok
    ∙ pushed_more (reason_of c.args.kept.now) c.args.side (listed c.args.entries) c.loop-place.place c.in-Some.entry c.reason-in-loop-place.result
    c.loop-place.from.items (sym c.get.ensures ∙ c.in-Some.is) c.reason-in-loop-place.ensures c.loop-place.invariant

pub returns-in_default-get : goal.returns-in_default-get
returns-in_default-get c =
    let found =
    item_there (listed c.args.entries) c.loop-place.place
    (subst (λ n. c.loop-place.place < n) c.len-place-end.ensures.count c.loop-place-test.true) in
    absurd (none-some found.0 (sym c.in_default-get.is ∙ c.get.ensures ∙ found.1))

pub returns : goal.returns
returns c =
    c.loop-place.invariant
    ∙ ap (λ es. map (reason_of c.args.kept.now) (slots_on c.args.side es))
    (take_all c.loop-place.place (listed c.args.entries) (subst (λ n. n ≤ c.loop-place.place) c.len-place-end.ensures.count c.loop-place-test.false))
