use Rattle.std.proofs.Common.{[], ◌∷◌}
use Rattle.ct_words.specs.declared.claim.Side.TheVariants.{Lower}
use Rattle.ct_rule_parts.specs.Slot.{Slot}
use Rattle.ct_rules.specs.declared.rule.Rule.TheVariants.{M3, M4, M5, M6, M7, M8}
use Rattle.ct_rules.specs.Rule.{row_of}
use Rattle.ct_slots.specs.Number.{bound_of}
use Rattle.ct_offers.proofs.AskedLemmas.{asked_none, asked_more}
use Rattle.ct_offers.proofs.resting.ask_lower_with_weight.Goals as goal

pub returns : goal.returns
unfolding row_of
returns c =
    let supports = c.args.supports.now in
    let f = bound_of c.args.bounds.now in
    let s : Slot = (Lower, c.args.entry) in
    let best = c.args.best.now in
    let one = asked_more supports f s best best c.ask_own.new.best [] M3 (asked_none supports f s best) c.ask_own.ensures.pulled c.ask_own.ensures.within in
    let two = asked_more supports f s best c.ask_own.new.best c.ask_own-2.new.best (M3 ∷ []) M4 one c.ask_own-2.ensures.pulled c.ask_own-2.ensures.within in
    let three = asked_more supports f s best c.ask_own-2.new.best c.ask_own-3.new.best (M3 ∷ M4 ∷ []) M5 two c.ask_own-3.ensures.pulled c.ask_own-3.ensures.within in
    let four = asked_more supports f s best c.ask_own-3.new.best c.ask_own-4.new.best (M3 ∷ M4 ∷ M5 ∷ []) M6 three c.ask_own-4.ensures.pulled c.ask_own-4.ensures.within in
    let five = asked_more supports f s best c.ask_own-4.new.best c.ask_own-5.new.best (M3 ∷ M4 ∷ M5 ∷ M6 ∷ []) M7 four c.ask_own-5.ensures.pulled c.ask_own-5.ensures.within in
    let six = asked_more supports f s best c.ask_own-5.new.best c.ask_own-6.new.best (M3 ∷ M4 ∷ M5 ∷ M6 ∷ M7 ∷ []) M8 five c.ask_own-6.ensures.pulled c.ask_own-6.ensures.within in
    record { pulled = six.pulled; within = six.within }
