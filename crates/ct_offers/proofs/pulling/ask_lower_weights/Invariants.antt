use Rattle.std.proofs.Common.{ℕ, ◌<◌, ◌≤◌}
use Rattle.ct_words.specs.declared.claim.Side.TheVariants.{Lower}
use Rattle.ct_rules.specs.declared.rule.Rule.TheVariants.{L9}
use Rattle.ct_slots.specs.Number.{bound_of}
use Rattle.ct_offers.specs.Offers.{IsWithin}
use Rattle.ct_offers.specs.Inside.Pulled.{IsPulled}
use Rattle.ct_offers.proofs.pulling.ask_lower_weights.Given as goal

-- the weights so far give nothing better
abbrev pub invariant-loop-w : goal.invariant-loop-w
invariant-loop-w l = IsPulled l.supports (bound_of l.bounds) (Lower, l.entry) l.fn.best l.best
    × ((w : ℕ) → l.half ≤ w → w < l.w → IsWithin l.supports (bound_of l.bounds) (Lower, l.entry) l.best.value (L9 w))
