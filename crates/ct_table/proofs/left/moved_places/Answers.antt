use Rattle.std.proofs.Common.{sym, ◌∙◌}
use Rattle.ct_table.specs.Inside.Walk.{moved_places}
use Rattle.ct_table.proofs.MovedLists.{one_more_moved, one_unmoved, all_moved}
use Rattle.ct_table.proofs.left.moved_places.Goals as goal

pub loop-place-preserved : goal.loop-place-preserved
loop-place-preserved c =
    one_more_moved c.args.base c.args.moved.now c.args.from.now c.loop-place.place-index c.in-Some.there c.loop-place.places.items c.push.new.self.items
    (moved_places c.args.base c.args.moved.now c.args.from.now) c.loop-place-test.true (sym c.in-Some.is ∙ c.moved_place.ensures) c.in_ok-push.ensures.ok
    c.loop-place.invariant

pub returns : goal.returns
returns c =
    all_moved c.args.base c.args.moved.now c.args.from.now c.loop-place.place-index c.loop-place.places.items
    (moved_places c.args.base c.args.moved.now c.args.from.now) c.loop-place-test.false c.loop-place.invariant

pub returns-in_default : goal.returns-in_default
returns-in_default c =
    one_unmoved c.args.base c.args.moved.now c.args.from.now c.loop-place.place-index c.loop-place.places.items
    (moved_places c.args.base c.args.moved.now c.args.from.now) c.loop-place-test.true (sym c.in_default.is ∙ c.moved_place.ensures)
    c.loop-place.invariant
