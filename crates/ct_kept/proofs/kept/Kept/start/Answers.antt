use Rattle.std.proofs.Common.{◌+◌, ◌*◌, arith}
use Rattle.ct_slots.specs.Number.{side_size}
use Rattle.ct_kept.proofs.StartLemmas.{IsKept-started, IsStarted-empty, IsStarted-same}
use Rattle.ct_kept.proofs.kept.Kept.start.Goals as goal

pub returns-clause-kept : goal.returns-clause-kept
returns-clause-kept c =
    IsKept-started c.start_side-2.new.self
    (IsStarted-same c.start_side-2.new.self (1 * side_size + side_size) (2 * side_size) (omega arith) c.in_ok-start_side-2.ensures)

pub start_side-requires : goal.start_side-requires
start_side-requires c =
    let empty = c.in_ok-kept.ensures in
    IsStarted-empty c.in_ok-kept.kept empty.bounds empty.reasons empty.lines empty.base
