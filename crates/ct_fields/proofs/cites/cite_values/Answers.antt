use Rattle.std.proofs.Common.{take_all, length, ap, subst, IsTrue, ◌∙◌, ℕ, List}
use Rattle.std.specs.Prelude.{All}
use Rattle.std.proofs.lemmas.List.Elements.{All-nil, All-more}
use Rattle.toml.specs.Data.{Data, string, array}
use Rattle.toml.specs.View.{view, items_of}
use Rattle.toml.proofs.Views.{view-Array}
use Rattle.ct_names.specs.Cite.{is_cite}
use Rattle.ct_fields.proofs.PushedValues.{none_pushed, pushed, all_pushed}
use Rattle.ct_fields.proofs.Reserved.{room_left, room_stays}
use Rattle.ct_fields.proofs.cites.cite_values.Goals as goal

abbrev IsOne : List ℕ → Type 0
IsOne cite = IsTrue (is_cite cite)

pub loop-cite-init : goal.loop-cite-init
loop-cite-init c = (
  none_pushed view string c.in_ok-values.values.items c.args.cites.now c.in_ok-values.ensures.items,
  All-nil IsOne,
  (c.in_ok-values.ensures.len, c.in_ok-values.ensures.capacity),
)

pub push_reserved-requires : goal.push_reserved-requires
push_reserved-requires c =
    room_left c.loop-cite.values c.loop-cite.cite-index (length c.args.cites.now) c.loop-cite.invariant.2 c.loop-cite-test.true

pub loop-cite-preserved : goal.loop-cite-preserved
loop-cite-preserved c =
    let i = c.loop-cite.cite-index in
    let cites = c.args.cites.now in
    let cite = c.cite-item.result in
    let listed =
    pushed view string c.loop-cite.values.items c.push_reserved.new.self.items c.in_ok-cite_value.field-0 cites i cite c.loop-cite-test.true
    c.cite-item.is c.in_ok-cite_value.ensures.value c.push_reserved.ensures.items c.loop-cite.invariant.0 in
    let right = All-more IsOne cites i cite c.loop-cite-test.true c.loop-cite.invariant.1 (subst IsOne c.cite-item.is c.cite_value.ensures.cite) in (
      listed,
      right,
      room_stays c.loop-cite.values c.push_reserved.new.self i (length cites) c.loop-cite.invariant.2 c.push_reserved.ensures.len
          c.push_reserved.ensures.capacity,
    )

pub returns-clause-value : goal.returns-clause-value
returns-clause-value c =
    view-Array c.loop-cite.values
    ∙ ap (λ (ds : List Data). array (items_of ds))
    (all_pushed view string c.loop-cite.values.items c.args.cites.now c.loop-cite.cite-index c.loop-cite-test.false c.loop-cite.invariant.0)

pub returns-clause-cites : goal.returns-clause-cites
returns-clause-cites c = subst (All IsOne) (take_all c.loop-cite.cite-index c.args.cites.now c.loop-cite-test.false) c.loop-cite.invariant.1

pub bounds-cites-cite-index : goal.bounds-cites-cite-index
bounds-cites-cite-index c = c.loop-cite-test.true
