use Rattle.std.proofs.Common.{◌≡◌, ◌+◌, ◌<◌, ℕ, List, drop, length, get_or, Some, sym, ap, ◌∙◌}
use Rattle.std.specs.Prelude.{Bool, true, false, if◌then◌else◌}
use Rattle.std.specs.Str.{bytes_eq}
use Rattle.std.proofs.lemmas.List.{at_drop_more}
use Rattle.ct_rules.specs.declared.rule.Rule.{Rule}
use Rattle.ct_rules.specs.declared.rule.Rule.TheVariants.{L1}
use Rattle.ct_rules.specs.Rule.{name_of}
use Rattle.ct_rules.specs.Listing.{first_named}
use Rattle.ct_rules.proofs.listing.first_named.Goals as goal

-- the first from a place on: the rule there, or the first of the next ones
from_here : (name : List ℕ) (rules : List Rule) (i : ℕ) (b : Bool) → i < length rules → bytes_eq (name_of (get_or rules i L1)) name ≡ b
    → first_named name (drop i rules) ≡ (if b then Some (get_or rules i L1) else first_named name (drop (i + 1) rules))
from_here name rules i b within is =
    at_drop_more (first_named name) rules i L1 within
    ∙ ap (λ (t : Bool). if t then Some (get_or rules i L1) else first_named name (drop (i + 1) rules)) is

pub loop-rule-preserved : goal.loop-rule-preserved
loop-rule-preserved c =
    c.loop-rule.invariant
    ∙ from_here c.args.name.now c.args.rules.now c.loop-rule.rule-index false c.loop-rule-test.true
    (ap (λ (n : List ℕ). bytes_eq n c.args.name.now) (sym (c.as_bytes.ensures.value ∙ c.rule_name.ensures)) ∙ sym c.eq.ensures ∙ c.if-eq.false)

pub returns-then-eq : goal.returns-then-eq
returns-then-eq c =
    sym (c.loop-rule.invariant
    ∙ from_here c.args.name.now c.args.rules.now c.loop-rule.rule-index true c.loop-rule-test.true
    (ap (λ (n : List ℕ). bytes_eq n c.args.name.now) (sym (c.as_bytes.ensures.value ∙ c.rule_name.ensures)) ∙ sym c.eq.ensures ∙ c.if-eq.true))
