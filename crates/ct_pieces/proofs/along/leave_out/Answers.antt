use Rattle.std.proofs.Common.{◌<◌, length, ◌∙◌, arith, rules}
use Rattle.ct_pieces.proofs.LeftOut.{LeavesOut-all, LeavesOut-none, LeavesOut-in, LeavesOut-out}
use Rattle.ct_pieces.proofs.along.leave_out.Goals as goal
use Rattle.ct_pieces.proofs.along.leave_out.Goals.{then-not-gone-place, else-not-gone-place}

pub loop-place-init : goal.loop-place-init
loop-place-init g c = LeavesOut-none c.args.gone.now c.args.items.now.items

pub loop-place-preserved : goal.loop-place-preserved
loop-place-preserved g c =
    let some : c.loop-place.place < length c.args.gone.now = search rules in
    let same = c.requires in
    let within : c.loop-place.place < length c.args.items.now.items = omega (arith, some, same) in
    elim c.if-not-gone-place.branch [
      | then-not-gone-place w ↦ rw (w.items-is, w.left-is) (LeavesOut-in _ c.loop-place.invariant within some w.if-not-gone-place.true w.swap.ensures.by_index)
      | else-not-gone-place w ↦ rw (w.items-is, w.left-is) (LeavesOut-out c.loop-place.invariant within some w.if-not-gone-place.false)
    ]

pub returns : goal.returns
returns g c =
    let past = c.loop-place-test.false in
    let same = c.requires in
    c.truncate.ensures.items ∙ LeavesOut-all c.loop-place.invariant (omega (arith, past, same))
