use Rattle.std.proofs.Common.{◌≡◌, replicate}
use Rattle.ct_rule_parts.specs.declared.support.Support.TheVariants.{Nothing}
use Rattle.ct_table.proofs.exchanging.nothings.Given as goal

-- so many so far
abbrev pub invariant-loop : goal.invariant-loop
invariant-loop l = l.supports.items ≡ replicate l.counter Nothing
