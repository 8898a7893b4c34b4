use Rattle.std.proofs.Common.{ℕ, List, ◌<◌, ◌≤◌}
use Rattle.ct_words.specs.declared.claim.Side.TheVariants.{Lower}
use Rattle.ct_rule_parts.specs.declared.support.Support.{Support}
use Rattle.ct_slots.specs.Number.{bound_of}
use Rattle.ct_offers.specs.Inside.Pulled.{IsPulled}
use Rattle.ct_offers.proofs.JuxtapositionLemmas.{least_of}
use Rattle.ct_offers.proofs.juxtaposition.best_with_first.Given as goal

-- the distances so far give nothing better
abbrev pub invariant-loop-c : goal.invariant-loop-c
invariant-loop-c l = ((supports : List Support) → IsPulled supports (bound_of l.bounds) (Lower, l.entry) l.fn.best l.best)
    × ((c : ℕ) → l.from ≤ c → c < l.c → least_of (bound_of l.bounds) l.entry.n l.entry.d l.m c ≤ l.best.value)
