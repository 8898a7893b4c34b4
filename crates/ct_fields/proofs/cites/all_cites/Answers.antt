use Rattle.std.proofs.Common.{length, sym, ◌∙◌}
use Rattle.ct_fields.specs.Cites.{cite_in}
use Rattle.ct_fields.proofs.Reserved.{room_left, room_stays}
use Rattle.ct_fields.proofs.ReadLists.{all_of-begin, all_of-more, all_of-none, all_of-end}
use Rattle.ct_fields.proofs.cites.all_cites.Goals as goal

pub loop-value-init : goal.loop-value-init
loop-value-init c = (
  all_of-begin cite_in c.args.values.now c.in_ok-cites.cites.items c.in_ok-cites.ensures.items,
  (c.in_ok-cites.ensures.len, c.in_ok-cites.ensures.capacity),
)

pub push_reserved-requires : goal.push_reserved-requires
push_reserved-requires c =
    room_left c.loop-value.cites c.loop-value.value-index (length c.args.values.now) c.loop-value.invariant.1 c.loop-value-test.true

pub loop-value-preserved : goal.loop-value-preserved
loop-value-preserved c = (
  all_of-more cite_in c.args.values.now c.loop-value.value-index c.loop-value.cites.items _ c.loop-value.invariant.0
      c.value-item.result c.in-Some.cite c.push_reserved.new.self.items c.loop-value-test.true c.value-item.is (sym c.in_ok-cite.ensures ∙ c.in-Some.is)
      c.push_reserved.ensures.items,
  room_stays c.loop-value.cites c.push_reserved.new.self c.loop-value.value-index (length c.args.values.now) c.loop-value.invariant.1
      c.push_reserved.ensures.len c.push_reserved.ensures.capacity,
)

pub returns-in_default : goal.returns-in_default
returns-in_default c =
    all_of-none cite_in c.args.values.now c.loop-value.value-index c.loop-value.cites.items _ c.loop-value.invariant.0
    c.value-item.result c.loop-value-test.true c.value-item.is (sym c.in_ok-cite.ensures ∙ c.in_default.is)

pub returns : goal.returns
returns c = all_of-end cite_in c.args.values.now c.loop-value.value-index c.loop-value.cites.items _ c.loop-value.invariant.0 c.loop-value-test.false
