-- Plotkin's bound for even distances, and for odd ones by a parity digit.
use Rattle.std.proofs.Common.{◌≡◌, ◌+◌, ◌%◌, arith}
use Rattle.ct_elementary.proofs.Entries.{IsWithin-from_entry}
use Rattle.ct_elementary.proofs.PlotkinRule.{even_sound, odd_sound, even_within}
use Rattle.ct_elementary.proofs.bounds.plotkin.Goals as goal

pub returns-then-d-eq0-clause-range : goal.returns-then-d-eq0-clause-range
returns-then-d-eq0-clause-range c =
    let entry = IsWithin-from_entry c.args.n c.args.d c.requires in
    rw c.plotkin_even.ensures (even_within c.args.n c.args.d (omega arith) (omega arith))

pub returns-then-d-eq0-clause-sound : goal.returns-then-d-eq0-clause-sound
returns-then-d-eq0-clause-sound c =
    let entry = IsWithin-from_entry c.args.n c.args.d c.requires in
    rw c.plotkin_even.ensures (even_sound c.args.n c.args.d (omega arith))

pub returns-else-d-eq0-clause-range : goal.returns-else-d-eq0-clause-range
returns-else-d-eq0-clause-range c =
    let entry = IsWithin-from_entry c.args.n c.args.d c.requires in
    rw c.plotkin_even-else-d-eq0.ensures (even_within (c.args.n + 1) (c.args.d + 1) (omega arith) (omega arith))

pub returns-else-d-eq0-clause-sound : goal.returns-else-d-eq0-clause-sound
returns-else-d-eq0-clause-sound c =
    let odd : c.args.d % 2 ≡ 1 = omega arith in
    rw c.plotkin_even-else-d-eq0.ensures (odd_sound c.args.n c.args.d odd)
