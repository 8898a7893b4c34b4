use Rattle.std.proofs.Common.{List, length, take_all, ap, subst, ◌∙◌}
use Rattle.std.specs.Prelude.{All}
use Rattle.std.proofs.lemmas.List.Elements.{All-nil, All-more}
use Rattle.toml.specs.Data.{Data, array}
use Rattle.toml.specs.View.{view, items_of}
use Rattle.toml.proofs.Views.{view-Array}
use Rattle.toml.specs.Data.{string}
use Rattle.ct_fields.specs.Forms.{pair_data}
use Rattle.ct_partition_files.specs.Pairs.{AreIds}
use Rattle.ct_fields.proofs.PushedValues.{none_pushed, pushed, all_pushed}
use Rattle.ct_fields.proofs.Reserved.{room_left, room_stays}
use Rattle.ct_partition_files.proofs.written.id_pairs.Goals as goal

pub loop-first-init : goal.loop-first-init
loop-first-init c = (
  none_pushed view (pair_data string string) c.in_ok-values.values.items c.args.pairs.now c.in_ok-values.ensures.items,
  All-nil AreIds,
  (c.in_ok-values.ensures.len, c.in_ok-values.ensures.capacity),
)

pub push_reserved-requires : goal.push_reserved-requires
push_reserved-requires c =
    room_left c.loop-first.values c.loop-first.first-index (length c.args.pairs.now) c.loop-first.invariant.2 c.loop-first-test.true

pub loop-first-preserved : goal.loop-first-preserved
loop-first-preserved c =
    let i = c.loop-first.first-index in
    let pairs = c.args.pairs.now in
    let pair = c.loop-first-item.result in
    let listed =
    pushed view (pair_data string string) c.loop-first.values.items c.push_reserved.new.self.items c.in_ok-pair_value.field-0 pairs i pair c.loop-first-test.true
    c.loop-first-item.is c.in_ok-pair_value.ensures.list c.push_reserved.ensures.items c.loop-first.invariant.0 in
    let ids =
    All-more AreIds pairs i pair c.loop-first-test.true c.loop-first.invariant.1
    (subst AreIds c.loop-first-item.is c.in_ok-pair_value.ensures.ids) in (
      listed,
      ids,
      room_stays c.loop-first.values c.push_reserved.new.self i (length pairs) c.loop-first.invariant.2 c.push_reserved.ensures.len
          c.push_reserved.ensures.capacity,
    )

pub returns-clause-list : goal.returns-clause-list
returns-clause-list c =
    view-Array c.loop-first.values
    ∙ ap (λ (ds : List Data). array (items_of ds))
    (all_pushed view (pair_data string string) c.loop-first.values.items c.args.pairs.now c.loop-first.first-index c.loop-first-test.false c.loop-first.invariant.0)

pub returns-clause-ids : goal.returns-clause-ids
returns-clause-ids c =
    subst (All AreIds) (take_all c.loop-first.first-index c.args.pairs.now c.loop-first-test.false) c.loop-first.invariant.1

pub bounds-pairs-first-index : goal.bounds-pairs-first-index
bounds-pairs-first-index c = c.loop-first-test.true
