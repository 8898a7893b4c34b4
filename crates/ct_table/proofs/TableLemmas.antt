-- What a table gives: best and true bounds.
use Rattle.std.proofs.Common.{ℕ, List, subst}
use Rattle.ct_words.specs.Entry.{IsEntry}
use Rattle.ct_rule_parts.specs.declared.support.Support.{Support}
use Rattle.ct_rule_parts.specs.Slot.{Slot, claim_at, IsNoBetter}
use Rattle.ct_rule_parts.specs.Support.{AllStand}
use Rattle.ct_rules.specs.Closed.{AreTrue, IsClosed}
use Rattle.ct_rules.specs.Derivation.{LineValue, IsDerived, IsBest}
use Rattle.ct_rules.proofs.ClosedBounds.{AreDerived, AreTrue-from_derived, closed_bound_is_best, closed_bounds_are_best_possible}
use Rattle.ct_rules.proofs.Derivations.{derived_from_line}
use Rattle.ct_kept.specs.Kept.{KeptValue, IsKept, reason_of}
use Rattle.ct_slots.specs.Number.{bound_of}
use Rattle.ct_kept.proofs.KeptLemmas.{IsReasonLine, reason_line}

-- each bound that is kept is derived
pub bounds_are_derived : (supports : List Support) (kept : KeptValue) → IsKept supports kept
    → AreDerived supports (bound_of kept.bounds)
bounds_are_derived supports kept good s entry = go (reason_line supports kept s good entry)
  where
    go : ((l : LineValue) × IsReasonLine kept s l) → IsDerived supports (claim_at s (bound_of kept.bounds s))
    go (l, is) =
        subst (IsDerived supports) is.claim
        (derived_from_line supports kept.lines (reason_of kept s) l is.there good.derivation)

-- and true
pub bounds_are_true : (supports : List Support) (kept : KeptValue) → AllStand supports → IsKept supports kept
    → AreTrue (bound_of kept.bounds)
bounds_are_true supports kept stand good =
    AreTrue-from_derived supports (bound_of kept.bounds) stand (bounds_are_derived supports kept good)

-- where it is closed they are best
pub bounds_are_best : (supports : List Support) (kept : KeptValue) (s : Slot) → AllStand supports → IsKept supports kept
    → IsClosed supports (bound_of kept.bounds) → IsEntry s.1 → IsBest supports s (bound_of kept.bounds s)
bounds_are_best supports kept s stand good closed entry =
    closed_bound_is_best supports (bound_of kept.bounds) s stand (bounds_are_true supports kept stand good) closed
    (bounds_are_derived supports kept good s entry)

-- nothing that is kept is better than closed true bounds
pub kept-no_better : (supports : List Support) (bounds : Slot → ℕ) (kept : KeptValue) (s : Slot) → AllStand supports
    → AreTrue bounds → IsClosed supports bounds → IsKept supports kept → IsEntry s.1
    → IsNoBetter s.0 (bound_of kept.bounds s) (bounds s)
kept-no_better supports bounds kept s stand true_bounds closed good entry =
    closed_bounds_are_best_possible supports bounds stand true_bounds closed (claim_at s (bound_of kept.bounds s))
    (bounds_are_derived supports kept good s entry)
