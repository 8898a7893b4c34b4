use Rattle.std.proofs.Common.{◌≡◌, ◌++◌, take}
use Rattle.std.specs.List.{flat_map}
use Rattle.ct_replies.specs.Text.{bounds_line}
use Rattle.ct_replies.proofs.text.put_column.Given as goal

abbrev pub invariant-loop-bounds : goal.invariant-loop-bounds
invariant-loop-bounds l = l.text.items ≡ l.fn.text.items ++ flat_map bounds_line (take l.bounds-index l.column)
