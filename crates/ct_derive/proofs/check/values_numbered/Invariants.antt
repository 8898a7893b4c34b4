use Rattle.std.proofs.Common.{◌≡◌, ◌++◌, drop, option_map}
use Rattle.ct_rule_parts.specs.Entries.{listed}
use Rattle.ct_derive.specs.Check.{values_numbered}
use Rattle.ct_derive.proofs.check.values_numbered.Given as goal

-- with the values of those that are left, the values so far are all
abbrev pub invariant-loop-place : goal.invariant-loop-place
invariant-loop-place l = values_numbered l.side l.before (listed l.entries) l.numbers
    ≡ option_map (λ more. l.values.items ++ more) (values_numbered l.side l.before (drop l.place (listed l.entries)) (drop l.place l.numbers))
