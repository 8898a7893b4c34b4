use Rattle.std.proofs.Common.{sym, ◌∙◌}
use Rattle.ct_io.proofs.HeldLemmas.{no_bytes}
use Rattle.ct_io.proofs.held.copy_of.Goals as goal

pub returns-then-is_empty : goal.returns-then-is_empty
returns-then-is_empty c = c.new.ensures.items ∙ sym (no_bytes c.args.bytes.now c.if-is_empty.ensures)
