use Rattle.std.proofs.Common.{◌≡◌, Option, get_or, refl, sym, ap, subst, ◌∙◌}
use Rattle.std.specs.Prelude.{IfOk}
use Rattle.std.specs.Str.{bytes_eq}
use Rattle.ct_verify.specs.Inside.StatedLine.{StatedLineValue}
use Rattle.ct_verify.proofs.StatedSteps.{reasoned}
use Rattle.ct_verify.proofs.stated_line.parse_reason.Goals as goal

pub returns-in-len2-up : goal.returns-in-len2-up
returns-in-len2-up c =
    subst (λ (stated : Option StatedLineValue). IfOk c.parse_rest.result (λ line. line ≡ stated))
    (reasoned c.args.number c.in-Some.claim c.args.claim c.args.words.now _
    (λ word. word.now) _ _ c.parse_rule-rule.result c.in-Some.is c.in-len2-up.len_at_least refl
    (sym (c.eq.ensures ∙ ap (bytes_eq (get_or c.args.words.now 0 _).now) c.as_slice.ensures) ∙ c.if-eq.true)
    c.parse_rule-rule.ensures)
    c.parse_rest.ensures
