use Rattle.std.proofs.Common.{◌++◌}
use Rattle.std.specs.Prelude.{codes}
use Rattle.ct_derive.specs.Check.{numbers_at}
use Rattle.ct_derive.specs.Text.{rule_words, from_words}
use Rattle.ct_derive.proofs.TextParts.{onto, onto_on_ok}
use Rattle.ct_derive.proofs.text.put_reason.Goals as goal

pub returns : goal.returns
returns c =
    let t = c.args.text.now.items in
    let named = c.put_rule.new.text.items in
    let words = rule_words c.args.ids.now c.args.rule in
    let first = onto t (codes " by ") words c.extend_from_slice.new.self.items named c.in_ok-extend_from_slice.ensures.items c.in_ok-put_rule.ensures in
    onto_on_ok c.put_from.result t (codes " by " ++ words) (from_words (numbers_at c.args.from.now)) named c.put_from.new.text.items first
    c.put_from.ensures
