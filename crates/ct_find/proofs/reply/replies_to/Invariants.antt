use Rattle.std.proofs.Common.{length}
use Rattle.ct_io.specs.Lines.{lines_of}
use Rattle.ct_find.proofs.ReplyLemmas.{Leads}
use Rattle.ct_find.proofs.reply.replies_to.Given as goal

-- the replies so far, with those to the lines that are left, are those to all lines
abbrev pub invariant-loop-rest : goal.invariant-loop-rest
invariant-loop-rest l = Leads (lines_of l.input) l.replies.text.items l.replies.refused (lines_of l.rest)

abbrev pub decreases-loop-rest : goal.decreases-loop-rest
decreases-loop-rest l = length l.rest
