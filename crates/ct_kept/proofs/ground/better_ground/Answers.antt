use Rattle.std.proofs.Common.{ℕ, sym, subst, ◌∙◌}
use Rattle.std.proofs.lemmas.Option.{none-some, same_Some}
use Rattle.ct_rule_parts.specs.Slot.{IsNoBetter}
use Rattle.ct_slots.proofs.BetterLemmas.{better-no_worse, no_better-self}
use Rattle.ct_kept.proofs.GroundLemmas.{own_ground_within}
use Rattle.ct_kept.proofs.ground.better_ground.Goals as goal

pub returns-in_default-clause-no_worse : goal.returns-in_default-clause-no_worse
returns-in_default-clause-no_worse c = no_better-self c.args.side c.args.best.value

pub returns-in_default-clause-within : goal.returns-in_default-clause-within
returns-in_default-clause-within c = λ u value. absurd (none-some u (sym c.in_default.is ∙ c.given.ensures ∙ value))

pub returns-then-is_better-clause-no_worse : goal.returns-then-is_better-clause-no_worse
returns-then-is_better-clause-no_worse c = better-no_worse c.args.side c.in-Some.value c.args.best.value c.if-is_better.ensures

pub returns-then-is_better-clause-within : goal.returns-then-is_better-clause-within
returns-then-is_better-clause-within c = own_ground_within (c.args.side, c.args.entry) c.args.rule c.in-Some.value (sym c.in-Some.ensures)

pub returns-else-is_better-clause-no_worse : goal.returns-else-is_better-clause-no_worse
returns-else-is_better-clause-no_worse c = no_better-self c.args.side c.args.best.value

pub returns-else-is_better-clause-within : goal.returns-else-is_better-clause-within
returns-else-is_better-clause-within c = λ u value.
    subst (λ (v : ℕ). IsNoBetter c.args.side v c.args.best.value) (same_Some c.in-Some.value u (c.in-Some.ensures ∙ value)) c.if-is_better.ensures

pub returns-then-is_better-clause-given : goal.returns-then-is_better-clause-given
returns-then-is_better-clause-given c = record { side = c.requires.side; nothing = c.requires.nothing; value = sym c.in-Some.ensures }

pub returns-else-is_better-clause-given : goal.returns-else-is_better-clause-given
returns-else-is_better-clause-given c = c.requires.given
