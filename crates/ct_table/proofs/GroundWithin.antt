-- No rule that rests on nothing gives anything better than what stands.
use Rattle.std.proofs.Common.{◌≡◌, List, [], map, Some, refl, subst, ap, ◌∙◌, sym}
use Rattle.ct_rule_parts.specs.declared.support.Support.{Support}
use Rattle.ct_rule_parts.specs.Slot.{Slot, IsNoBetter}
use Rattle.ct_rules.specs.Rule.{rule_side, value_of}
use Rattle.ct_rules.proofs.ClosedBounds.{no_better-trans}
use Rattle.ct_kept.specs.Kept.{KeptValue, IsKept, RestsOnNothing, IsGroundBound}
use Rattle.ct_slots.specs.Number.{bound_of}
use Rattle.ct_offers.specs.Offers.{AreGrounded}
use Rattle.ct_kept.proofs.GroundLemmas.{rests_same, value_same}
use Rattle.ct_kept.proofs.KeptLemmas.{line-no_better}
use Rattle.ct_offers.proofs.PullingLemmas.{over-value}

pub are_grounded : (supports : List Support) (kept : KeptValue) → IsKept supports kept → AreGrounded supports (bound_of kept.bounds)
are_grounded supports kept good r e entry none rests v value =
    let f = bound_of kept.bounds in
    let s : Slot = (rule_side r, e) in
    let nothing : RestsOnNothing r e = (none, rests) in
    let at = good.grounded s entry in
    let own : value_of [] r e [] ≡ Some v =
    sym (value_same supports r e nothing) ∙ ap (λ (slots : List Slot). value_of supports r e (map f slots)) (sym (rests_same supports r e nothing))
    ∙ over-value supports f r e v value in
    let best = subst (λ (t : Slot). IsGroundBound t at.1.claim.value) at.3 at.4.best in
    let line =
    subst (λ (t : Slot). IsNoBetter t.0 at.1.claim.value (bound_of kept.bounds t)) at.3 (line-no_better supports kept at.0 at.1 good at.2) in
    no_better-trans s.0 v at.1.claim.value (f s) (best r v refl nothing own) line
