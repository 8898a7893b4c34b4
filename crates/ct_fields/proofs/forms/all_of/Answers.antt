use Rattle.std.proofs.Common.{length, sym, ◌∙◌}
use Rattle.ct_fields.proofs.Reserved.{room_left, room_stays}
use Rattle.ct_fields.proofs.ReadLists.{all_of-begin, all_of-more, all_of-none, all_of-end}
use Rattle.ct_fields.proofs.forms.all_of.Goals as goal

pub loop-value-init : goal.loop-value-init
loop-value-init g c = (
  all_of-begin g.T.Form.form c.args.values.now c.in_ok-all.all.items c.in_ok-all.ensures.items,
  (c.in_ok-all.ensures.len, c.in_ok-all.ensures.capacity),
)

pub push_reserved-requires : goal.push_reserved-requires
push_reserved-requires g c =
    room_left c.loop-value.all c.loop-value.value-index (length c.args.values.now) c.loop-value.invariant.1 c.loop-value-test.true

pub loop-value-preserved : goal.loop-value-preserved
loop-value-preserved g c = (
  all_of-more g.T.Form.form c.args.values.now c.loop-value.value-index c.loop-value.all.items _ c.loop-value.invariant.0
      c.value-item.result c.in-Some.one c.push_reserved.new.self.items c.loop-value-test.true c.value-item.is (sym c.in-Some.ensures) c.push_reserved.ensures.items,
  room_stays c.loop-value.all c.push_reserved.new.self c.loop-value.value-index (length c.args.values.now) c.loop-value.invariant.1
      c.push_reserved.ensures.len c.push_reserved.ensures.capacity,
)

pub returns-in_default : goal.returns-in_default
returns-in_default g c =
    all_of-none g.T.Form.form c.args.values.now c.loop-value.value-index c.loop-value.all.items _ c.loop-value.invariant.0
    c.value-item.result c.loop-value-test.true c.value-item.is (sym c.of_value.ensures ∙ c.in_default.is)

pub returns : goal.returns
returns g c =
    all_of-end g.T.Form.form c.args.values.now c.loop-value.value-index c.loop-value.all.items _ c.loop-value.invariant.0 c.loop-value-test.false
