use Rattle.std.proofs.Common.{sym, subst}
use Rattle.ct_words.specs.declared.claim.Side.{Side}
use Rattle.ct_rules.specs.Rule.{rule_side}
use Rattle.ct_slots.specs.Number.{bound_of}
use Rattle.ct_offers.specs.Offers.{IsWithin}
use Rattle.ct_offers.proofs.PulledLemmas.{pulled_on}
use Rattle.ct_offers.proofs.pulling.ask_own.Goals as goal

pub returns-clause-pulled : goal.returns-clause-pulled
returns-clause-pulled c =
    pulled_on c.args.supports.now (bound_of c.args.bounds.now) (rule_side c.args.rule) c.rule_side-side.result c.args.entry c.args.best.now c.ask.new.best
    (sym c.rule_side-side.ensures) c.ask.ensures.pulled

pub returns-clause-within : goal.returns-clause-within
returns-clause-within c =
    subst (λ (s : Side). IsWithin c.args.supports.now (bound_of c.args.bounds.now) (s, c.args.entry) c.ask.new.best.value c.args.rule)
    c.rule_side-side.ensures c.ask.ensures.within
