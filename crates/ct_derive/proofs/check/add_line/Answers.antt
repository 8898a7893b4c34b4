use Rattle.std.proofs.Common.{◌++◌, ◌∷◌, [], ℕ, List, sym, ap, subst, ◌∙◌}
use Rattle.std.proofs.lemmas.Bool.{false≢true}
use Rattle.ct_rules.specs.Derivation.{LineValue, IsDerivation}
use Rattle.ct_derive.specs.Check.{line_fault}
use Rattle.ct_derive.proofs.CheckedLines.{derivation_by}
use Rattle.ct_derive.proofs.check.add_line.Goals as goal

pub returns-in_err-push-clause-derivation : goal.returns-in_err-push-clause-derivation
returns-in_err-push-clause-derivation c = λ derivation.
    subst (IsDerivation c.args.supports.now) (sym c.in_err-push.ensures.items) derivation

pub returns-clause-derivation : goal.returns-clause-derivation
returns-clause-derivation c = λ derivation.
    let lines = c.args.lines.now.items in
    let none = sym (c.in_ok-fault.ensures
    ∙ ap (λ (ls : List LineValue). line_fault c.args.supports.now ls c.args.claim c.args.rule c.args.numbers.now) c.deref.ensures.value)
    ∙ c.in_default.is in
    let items = c.in_ok-push.ensures.items
    ∙ ap (λ (from : List ℕ). c.args.lines.now.items ++ (record { claim = c.args.claim; rule = c.args.rule; from = from }) ∷ []) c.in_ok-from.ensures in
    subst (IsDerivation c.args.supports.now) (sym items)
    (derivation_by c.args.supports.now lines c.args.claim c.args.rule c.args.numbers.now c.requires none derivation)

pub returns-clause-fault : goal.returns-clause-fault
returns-clause-fault c =
    sym c.in_default.is
    ∙ c.in_ok-fault.ensures
    ∙ ap (λ (ls : List LineValue). line_fault c.args.supports.now ls c.args.claim c.args.rule c.args.numbers.now) c.deref.ensures.value

pub returns-clause-added : goal.returns-clause-added
returns-clause-added c = λ none.
    c.in_ok-push.ensures.items
    ∙ ap (λ (from : List ℕ). c.args.lines.now.items ++ (record { claim = c.args.claim; rule = c.args.rule; from = from }) ∷ []) c.in_ok-from.ensures

pub returns-clause-refused : goal.returns-clause-refused
returns-clause-refused c = λ some. absurd (false≢true some)
