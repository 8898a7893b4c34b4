use Rattle.std.proofs.Common.{◌≡◌, ℕ, Bool, true, false, sym, ap, subst, ◌∙◌}
use Rattle.std.specs.Bool.{MatchBool}
use Rattle.std.proofs.lemmas.Bool.{false≢true}
use Rattle.std.proofs.lemmas.Option.{none-some, same_Some}
use Rattle.ct_words.specs.declared.claim.Side.{Side}
use Rattle.ct_rule_parts.specs.Slot.{IsBetter, IsNoBetter}
use Rattle.ct_rules.specs.declared.rule.Rule.{Rule}
use Rattle.ct_slots.specs.Number.{bound_of}
use Rattle.ct_offers.specs.Offers.{value_over}
use Rattle.ct_table.proofs.follow.is_bettered.Goals as goal

-- a bound that is no better than another one that stands
no_better_given : (b : Bool) (side : Side) (value bound v stands : ℕ) → MatchBool b (IsBetter side value bound) (IsNoBetter side value bound)
    → bound ≡ stands → value ≡ v → b ≡ false → IsNoBetter side v stands
no_better_given true side value bound v stands better is same not = absurd (false≢true (sym not))
no_better_given false side value bound v stands worse is same not = subst (λ u. IsNoBetter side u stands) same (subst (IsNoBetter side value) is worse)

pub returns-in-Some : goal.returns-in-Some
returns-in-Some c = λ not v given.
    let offered =
    c.in-Some.ensures.value ∙ ap (λ (r : Rule). value_over c.args.supports.now (bound_of c.args.bounds.now) r c.args.entry) c.given_rule.ensures.rule
    ∙ given in
    no_better_given c.is_better.result c.args.side c.in-Some.value c.bound.result v (bound_of c.args.bounds.now (c.args.side, c.args.entry))
    c.is_better.ensures c.bound.ensures (same_Some c.in-Some.value v offered) not

pub returns-in-None : goal.returns-in-None
returns-in-None c = λ not v given.
    absurd (none-some v
    (c.in-None.ensures.value ∙ ap (λ (r : Rule). value_over c.args.supports.now (bound_of c.args.bounds.now) r c.args.entry) c.given_rule.ensures.rule
    ∙ given))
