use Rattle.std.proofs.Common.{◌≡◌, take}
use Rattle.ct_table_tests.proofs.table.copies_of.Given as goal

-- the supports so far
abbrev pub invariant-loop-support : goal.invariant-loop-support
invariant-loop-support l = l.copies.items ≡ take l.support-index l.supports
