use Rattle.std.proofs.Common.{◌≡◌, ◌<◌, length, ◌∙◌, sym, arith, rules}
use Rattle.ct_rules.specs.Removal.{marked}
use Rattle.ct_table.proofs.LeftOut.{LeavesOut-all, LeavesOut-none, LeavesOut-in, LeavesOut-out}
use Rattle.ct_table.proofs.exchanging.leave_out.Goals as goal
use Rattle.ct_table.proofs.exchanging.leave_out.Goals.{then-not-is_gone, else-not-is_gone}

pub loop-place-init : goal.loop-place-init
loop-place-init c = LeavesOut-none (marked c.args.gone.now) c.args.supports.now.items

pub loop-place-preserved : goal.loop-place-preserved
loop-place-preserved c =
    let size : length c.args.supports.now.items ≡ c.len-place-end.result = search rules in
    let some : c.loop-place.place < c.len-place-end.result = search rules in
    let within : c.loop-place.place < length c.args.supports.now.items = omega (arith, some, size) in
    elim c.if-not-is_gone.branch [
      | then-not-is_gone w ↦ rw (w.supports-is, w.left-is) (LeavesOut-in _ c.loop-place.invariant within (sym c.is_gone.ensures ∙ w.if-not-is_gone.true) w.swap.ensures.by_index)
      | else-not-is_gone w ↦ rw (w.supports-is, w.left-is) (LeavesOut-out c.loop-place.invariant within (sym c.is_gone.ensures ∙ w.if-not-is_gone.false))
    ]

pub returns : goal.returns
returns c =
    let past = c.loop-place-test.false in
    let size : length c.args.supports.now.items ≡ c.len-place-end.result = search rules in
    c.truncate.ensures.items ∙ LeavesOut-all c.loop-place.invariant (omega (arith, past, size))
