use Rattle.std.proofs.Common.{◌++◌, List, ℕ, ap, ◌∙◌}
use Rattle.std.proofs.lemmas.Result.{on_ok_weaker}
use Rattle.ct_rules.specs.declared.arguments.Arguments.{Arguments}
use Rattle.ct_rules.specs.Rule.{name_of, arguments_of}
use Rattle.ct_derive.specs.Text.{argument_words}
use Rattle.ct_derive.proofs.TextParts.{onto}
use Rattle.ct_derive.proofs.text.put_rule.Goals as goal

pub returns : goal.returns
returns c =
    let t = c.args.text.now.items in
    let named = c.extend_from_slice.new.self.items in
    let ids = c.args.ids.now in
    let name = c.in_ok-extend_from_slice.ensures.items ∙ ap (λ (n : List ℕ). c.args.text.now.items ++ n) (c.as_bytes.ensures.value ∙ c.rule_name.ensures) in
    on_ok_weaker c.put_arguments.result
    (λ put. onto t (name_of c.args.rule) (argument_words ids (arguments_of c.args.rule)) named c.put_arguments.new.text.items name
    (put ∙ ap (λ (a : Arguments). named ++ argument_words ids a) c.arguments_of.ensures))
    c.put_arguments.ensures
