use Rattle.std.proofs.Common.{◌≡◌, ◌+◌, ◌++◌, drop}
use Rattle.ct_derive.specs.Text.{lines_text}
use Rattle.ct_derive.proofs.text.put_lines.Given as goal

-- with the lines that are left, the text is whole
abbrev pub invariant-loop-place : goal.invariant-loop-place
invariant-loop-place l = l.fn.text.items ++ lines_text l.ids 1 l.lines ≡ l.text.items ++ lines_text l.ids (l.place + 1) (drop l.place l.lines)
