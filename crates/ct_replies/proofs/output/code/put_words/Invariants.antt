use Rattle.std.proofs.Common.{◌≤◌, ◌-◌, length, take}
use Rattle.ct_io.specs.Buffered.{Puts, buffered}
use Rattle.ct_replies.specs.Text.{word_lines}
use Rattle.ct_replies.proofs.output.code.put_words.Given as goal

abbrev pub invariant-loop-start : goal.invariant-loop-start
invariant-loop-start g l =
    Puts (buffered g.K.Sink.holds g.K.Sink.faults l.fn.sink l.fn.buffer) (buffered g.K.Sink.holds g.K.Sink.faults l.sink l.buffer)
    (word_lines l.n (take l.start l.words))
    × (l.start ≤ length l.words)

abbrev pub decreases-loop-start : goal.decreases-loop-start
decreases-loop-start g l = length l.words - l.start
