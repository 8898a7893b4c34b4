use Rattle.std.proofs.Common.{◌≡◌, ℕ, List, sym, subst}
use Rattle.ct_rules.specs.declared.rule.Rule.{Rule}
use Rattle.ct_rules.specs.Closed.{AreTrue}
use Rattle.ct_rules.specs.Rule.{rule_side}
use Rattle.ct_slots.specs.Number.{bound_of}
use Rattle.ct_offers.specs.Offers.{AreGrounded, IsGiven, IsWithin}
use Rattle.ct_table.proofs.GroundWithin.{are_grounded}
use Rattle.ct_table.proofs.TurnLemmas.{bounds_are_true}
use Rattle.ct_table.proofs.closing.pull.Goals as goal

pub best_offer-requires-clause-true_bounds : goal.best_offer-requires-clause-true_bounds
best_offer-requires-clause-true_bounds c =
    subst (λ (bounds : List ℕ). AreTrue (bound_of bounds)) (sym c.bounds.ensures)
    (bounds_are_true c.args.supports.now c.args.kept.now c.requires.stand c.requires.kept)

pub best_offer-requires-clause-grounded : goal.best_offer-requires-clause-grounded
best_offer-requires-clause-grounded c =
    subst (λ (bounds : List ℕ). AreGrounded c.args.supports.now (bound_of bounds)) (sym c.bounds.ensures)
    (are_grounded c.args.supports.now c.args.kept.now c.requires.kept)

pub returns-clause-given : goal.returns-clause-given
returns-clause-given c =
    subst (λ (bounds : List ℕ). IsGiven c.args.supports.now (bound_of bounds) (c.args.side, c.args.entry) c.best_offer.result.value c.best_offer.result.rule)
    c.bounds.ensures c.best_offer.ensures.given

pub returns-clause-within : goal.returns-clause-within
returns-clause-within c =
    subst (λ (bounds : List ℕ). (r : Rule) → rule_side r ≡ c.args.side
    → IsWithin c.args.supports.now (bound_of bounds) (c.args.side, c.args.entry) c.best_offer.result.value r)
    c.bounds.ensures c.best_offer.ensures.within
