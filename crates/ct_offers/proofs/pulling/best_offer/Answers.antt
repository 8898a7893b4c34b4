use Rattle.std.proofs.Common.{All, subst, ◌≡◌, ℕ, List, None}
use Rattle.ct_slots.specs.Number.{bound_of}
use Rattle.ct_words.specs.declared.claim.Side.{Side}
use Rattle.ct_words.specs.declared.claim.Side.TheVariants.{Lower}
use Rattle.ct_rules.specs.Listing.{rules_alone}
use Rattle.ct_rules.specs.declared.rule.Rule.TheVariants.{M9}
use Rattle.ct_offers.specs.Offers.{IsWithin, IsGiven}
use Rattle.ct_offers.proofs.GroundedLemmas.{class_grounded, two_below}
use Rattle.ct_offers.proofs.PulledLemmas.{within_better, asked_upper, asked_lower, some_below, from_standing, standing_given, given_lower}
use Rattle.ct_rule_parts.specs.declared.support.Support.{Support}
use Rattle.ct_rule_parts.specs.Slot.{Slot, IsNoBetter}
use Rattle.ct_rule_parts.proofs.SlotLemmas.{IsNoBetter-self}
use Rattle.ct_offers.specs.declared.best.Best.{Best}
use Rattle.ct_offers.specs.Inside.Pulled.{IsPulled}
use Rattle.ct_offers.proofs.LimitLemmas.{at_limit}
use Rattle.ct_offers.proofs.pulling.best_offer.Goals as goal

pub ask_below-requires-clause-some : goal.ask_below-requires-clause-some
ask_below-requires-clause-some c =
    some_below c.args.supports.now (bound_of c.args.bounds.now) c.args.side c.args.entry c.standing-best.result c.ask_unsupported.new.best
    c.requires.true_bounds c.requires.entry c.in-Lower.is
    c.standing-best.ensures.value c.ask_unsupported.ensures.pulled

pub ask_below-requires-clause-two : goal.ask_below-requires-clause-two
ask_below-requires-clause-two c = λ none near.
    let supports = c.args.supports.now in
    let f = bound_of c.args.bounds.now in
    let e = c.args.entry in
    let best = c.ask_unsupported.new.best.value in
    two_below supports f e best c.requires.entry none near
    (subst (λ (t : Side). All (IsWithin supports f (t, e) best) (rules_alone (t, e))) c.in-Lower.is c.ask_unsupported.ensures.alone)

pub returns-in-Upper-clause-within : goal.returns-in-Upper-clause-within
returns-in-Upper-clause-within c =
    asked_upper c.args.supports.now (bound_of c.args.bounds.now) c.args.side c.args.entry c.ask_unsupported.new.best.value
    c.ask_supports.new.best.value c.in-Upper.is c.ask_unsupported.ensures.alone c.ask_unsupported.ensures.by_weight
    c.ask_supports.ensures.pulled.no_worse c.ask_supports.ensures.within

pub returns-in-Lower-clause-within : goal.returns-in-Lower-clause-within
returns-in-Lower-clause-within c =
    let supports = c.args.supports.now in
    let f = bound_of c.args.bounds.now in
    asked_lower supports f c.args.side c.args.entry c.ask_unsupported.new.best.value
    c.ask_below.new.best.value c.in-Lower.is c.ask_unsupported.ensures.alone c.ask_unsupported.ensures.by_weight c.ask_below.ensures.pulled.no_worse c.ask_below.ensures.sums
    (λ k. within_better supports f (Lower, c.args.entry) (f (Lower, c.args.entry)) c.ask_below.new.best.value (M9 k)
    (from_standing supports f c.args.side c.args.entry c.standing-best.result c.ask_unsupported.new.best c.ask_below.new.best c.in-Lower.is
    c.standing-best.ensures.value c.ask_unsupported.ensures.pulled c.ask_below.ensures.pulled)
    (class_grounded supports f c.args.entry k c.requires.grounded c.requires.entry))
    c.ask_below.ensures.given

-- what stands is given, and so is what was found from it
given_first : (supports : List Support) (f : Slot → ℕ) (s : Slot) (first middle : Best) → first.value ≡ f s → first.rule ≡ None
    → IsPulled supports f s first middle → IsGiven supports f s middle.value middle.rule
given_first supports f s first middle value rule pulled = pulled.given (standing_given supports f s first value rule)

pub ask_unsupported-requires : goal.ask_unsupported-requires
ask_unsupported-requires c = record {
  entry = c.requires.entry;
  true_bounds = c.requires.true_bounds;
  grounded = c.requires.grounded;
  standing =
      subst (λ (v : ℕ). IsNoBetter c.args.side v c.standing-best.result.value) c.standing-best.ensures.value
      (IsNoBetter-self c.args.side c.standing-best.result.value);
  limit =
      c.limit_of-limit.ensures c.args.supports.now c.requires.stand c.requires.true_bounds;
}

pub ask_supports-requires : goal.ask_supports-requires
ask_supports-requires c = record { entry = c.requires.entry; places = c.requires.places }

pub ask_below-requires-clause-entry : goal.ask_below-requires-clause-entry
ask_below-requires-clause-entry c = c.requires.entry

pub ask_below-requires-clause-places : goal.ask_below-requires-clause-places
ask_below-requires-clause-places c = c.requires.places

pub ask_below-requires-clause-true_bounds : goal.ask_below-requires-clause-true_bounds
ask_below-requires-clause-true_bounds c = c.requires.true_bounds

pub returns-in-Upper-clause-given : goal.returns-in-Upper-clause-given
returns-in-Upper-clause-given c =
    let supports = c.args.supports.now in
    let f = bound_of c.args.bounds.now in
    let s : Slot = (c.args.side, c.args.entry) in
    c.ask_supports.ensures.pulled.given
    (given_first supports f s c.standing-best.result c.ask_unsupported.new.best c.standing-best.ensures.value
    c.standing-best.ensures.rule c.ask_unsupported.ensures.pulled)

pub returns-in-Lower-clause-given : goal.returns-in-Lower-clause-given
returns-in-Lower-clause-given c =
    let supports = c.args.supports.now in
    let f = bound_of c.args.bounds.now in
    let s : Slot = (c.args.side, c.args.entry) in
    given_lower supports f c.args.side c.args.entry c.ask_unsupported.new.best c.ask_below.new.best c.in-Lower.is
    (given_first supports f s c.standing-best.result c.ask_unsupported.new.best c.standing-best.ensures.value
    c.standing-best.ensures.rule c.ask_unsupported.ensures.pulled)
    c.ask_below.ensures.pulled

pub returns-then-best-limit-clause-given : goal.returns-then-best-limit-clause-given
returns-then-best-limit-clause-given c =
    standing_given c.args.supports.now (bound_of c.args.bounds.now) (c.args.side, c.args.entry) c.standing-best.result
    c.standing-best.ensures.value c.standing-best.ensures.rule

pub returns-then-best-limit-clause-within : goal.returns-then-best-limit-clause-within
returns-then-best-limit-clause-within c =
    at_limit c.args.supports.now (bound_of c.args.bounds.now) (c.args.side, c.args.entry) c.standing-best.result.value c.limit_of-limit.result
    c.if-best-limit.true (c.limit_of-limit.ensures c.args.supports.now c.requires.stand c.requires.true_bounds)
