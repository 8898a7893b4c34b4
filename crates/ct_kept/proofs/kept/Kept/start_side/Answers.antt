use Rattle.std.proofs.Common.{◌≡◌, ◌+◌, ◌-◌, ◌*◌, ap, arith}
use Rattle.ct_words.specs.declared.limits.TheConstants.{MAX_N}
use Rattle.ct_slots.specs.Number.{side_number, side_size, entries_to}
use Rattle.ct_kept.proofs.StartLemmas.{IsStarted-same}
use Rattle.ct_kept.proofs.kept.Kept.start_side.Goals as goal

pub loop-n-init : goal.loop-n-init
loop-n-init c = (
  omega arith,
  IsStarted-same c.args.self.now (side_number c.args.side * side_size) (side_number c.args.side * side_size + entries_to (1 - 1))
      (omega arith) c.requires,
)

pub loop-n-preserved : goal.loop-n-preserved
loop-n-preserved c =
    let n = c.loop-n.n in
    let same : n + 1 - 1 ≡ n = omega arith in
    let numbers = ap entries_to same in (
      omega arith,
      IsStarted-same c.start_length.new.self (side_number c.args.side * side_size + entries_to n)
          (side_number c.args.side * side_size + entries_to (n + 1 - 1)) (omega arith) c.in_ok-start_length.ensures,
    )

pub returns : goal.returns
returns c =
    let last : c.loop-n.n - 1 ≡ MAX_N = omega arith in
    let numbers = ap entries_to last in
    IsStarted-same c.loop-n.self (side_number c.args.side * side_size + entries_to (c.loop-n.n - 1))
    (side_number c.args.side * side_size + side_size) (omega arith) c.loop-n.invariant.1
