use Rattle.std.proofs.Common.{ℕ, sym, subst, ◌∙◌}
use Rattle.std.proofs.lemmas.Option.{none-some, same_Some}
use Rattle.ct_rule_parts.specs.Slot.{IsNoBetter}
use Rattle.ct_rule_parts.proofs.SlotLemmas.{IsNoBetter-self}
use Rattle.ct_offers.proofs.PulledLemmas.{IsPulled-refl, pulled_by}
use Rattle.ct_offers.proofs.best.Best.consider.Goals as goal

pub returns-in_default-clause-pulled : goal.returns-in_default-clause-pulled
returns-in_default-clause-pulled c = λ supports f e same given. IsPulled-refl supports f (c.args.side, e) c.args.self.now

pub returns-in_default-clause-within : goal.returns-in_default-clause-within
returns-in_default-clause-within c = λ v given. absurd (none-some v (sym c.in_default.is ∙ given))

pub returns-then-is_better-clause-pulled : goal.returns-then-is_better-clause-pulled
returns-then-is_better-clause-pulled c = λ supports f e same given.
    pulled_by supports f c.args.side e c.args.self.now c.args.rule c.in-Some.value same (sym given ∙ c.in-Some.is) c.if-is_better.ensures

pub returns-then-is_better-clause-within : goal.returns-then-is_better-clause-within
returns-then-is_better-clause-within c = λ v given.
    subst (λ (u : ℕ). IsNoBetter c.args.side v u) (same_Some v c.in-Some.value (sym given ∙ c.in-Some.is)) (IsNoBetter-self c.args.side v)

pub returns-else-is_better-clause-pulled : goal.returns-else-is_better-clause-pulled
returns-else-is_better-clause-pulled c = λ supports f e same given. IsPulled-refl supports f (c.args.side, e) c.args.self.now

pub returns-else-is_better-clause-within : goal.returns-else-is_better-clause-within
returns-else-is_better-clause-within c = λ v given.
    subst (λ (u : ℕ). IsNoBetter c.args.side u c.args.self.now.value) (same_Some c.in-Some.value v (sym c.in-Some.is ∙ given)) c.if-is_better.ensures
