use Rattle.std.proofs.Common.{ℕ, ◌+◌, ◌/◌, ap, arith}
use Rattle.ct_sample.specs.Run.{run_to}
use Rattle.ct_sample.proofs.Stepping.{command_is, sound_step, room_step, seed_step, run_step}
use Rattle.ct_sample.proofs.run.Run.obey.Goals as goal

pub loop-before-init : goal.loop-before-init
unfolding run_to
loop-before-init c =
    let small = c.ranges.number.fits in
    let is = c.from-seed.ensures in (c.requires, is, omega (arith, small, is))

pub apply_if_any-requires-clause-sound : goal.apply_if_any-requires-clause-sound
apply_if_any-requires-clause-sound c =
    let run = c.loop-before.self in
    let h = c.next-seed.result / 65536 in
    sound_step c.args.number c.loop-before.before (c.loop-before.before + 1) h run c.in_ok-command.command c.loop-before.invariant.0
    (command_is (c.loop-before.before + 1) h c.pieces.result.now run c.in_ok-command.command c.pieces.ensures c.in_ok-command.ensures)

pub apply_if_any-requires-clause-room : goal.apply_if_any-requires-clause-room
apply_if_any-requires-clause-room c =
    let small = c.ranges.number.fits in
    room_step c.args.number c.loop-before.before c.loop-before.self c.loop-before.invariant.0 c.loop-before-test.true (omega (arith, small))

pub loop-before-preserved : goal.loop-before-preserved
loop-before-preserved c =
    let run = c.loop-before.self in
    let before = c.loop-before.before in
    let h = c.next-seed.result / 65536 in
    let drew = seed_step c.args.number before c.loop-before.seed c.next-seed.result c.loop-before.invariant.1 c.next-seed.ensures.number in
    let small = c.next-seed.ensures.small in (
      run_step c.args.number before h run c.apply_if_any.new.self c.in_ok-command.command c.loop-before.invariant.0 (ap (λ (k : ℕ). k / 65536) drew)
          (command_is (before + 1) h c.pieces.result.now run c.in_ok-command.command c.pieces.ensures c.in_ok-command.ensures) c.in_ok-apply_if_any.ensures,
      drew,
      omega (arith, small),
    )
