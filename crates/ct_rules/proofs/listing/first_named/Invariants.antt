use Rattle.std.proofs.Common.{◌≡◌, drop}
use Rattle.ct_rules.specs.Listing.{first_named}
use Rattle.ct_rules.proofs.listing.first_named.Given as goal

-- the first among the rules that are left is the first of all
abbrev pub invariant-loop-rule : goal.invariant-loop-rule
invariant-loop-rule l = first_named l.name l.rules ≡ first_named l.name (drop l.rule-index l.rules)
