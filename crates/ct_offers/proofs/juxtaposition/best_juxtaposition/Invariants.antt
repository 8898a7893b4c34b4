use Rattle.std.proofs.Common.{ℕ, List, ◌<◌, ◌≤◌}
use Rattle.ct_words.specs.declared.claim.Side.TheVariants.{Lower}
use Rattle.ct_rule_parts.specs.declared.support.Support.{Support}
use Rattle.ct_rules.specs.declared.rule.Rule.TheVariants.{L11}
use Rattle.ct_slots.specs.Number.{bound_of}
use Rattle.ct_offers.specs.Offers.{IsWithin}
use Rattle.ct_offers.specs.Inside.Pulled.{IsPulled}
use Rattle.ct_offers.proofs.juxtaposition.best_juxtaposition.Given as goal

-- the lengths so far give nothing better
abbrev pub invariant-loop-m : goal.invariant-loop-m
invariant-loop-m l = ((supports : List Support) → IsPulled supports (bound_of l.bounds) (Lower, l.entry) l.fn.best l.best)
    × ((supports : List Support) (m c : ℕ) → 3 ≤ m → m < l.m → IsWithin supports (bound_of l.bounds) (Lower, l.entry) l.best.value (L11 m c))
