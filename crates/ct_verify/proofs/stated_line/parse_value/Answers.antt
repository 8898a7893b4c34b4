use Rattle.std.proofs.Common.{◌≡◌, Option, get_or, map, refl, sym, ap, subst, ◌∙◌}
use Rattle.std.specs.Prelude.{IfOk}
use Rattle.std.specs.Str.{bytes_eq}
use Rattle.ct_verify.specs.Inside.StatedLine.{StatedLineValue}
use Rattle.ct_verify.proofs.StatedSteps.{valued}
use Rattle.ct_verify.proofs.stated_line.parse_value.Goals as goal

pub returns-in-len2-up : goal.returns-in-len2-up
returns-in-len2-up c =
    subst (λ (stated : Option StatedLineValue). IfOk c.parse_reason.result (λ line. line ≡ stated))
    (valued c.args.number.now c.args.side.now (map (λ word. word.now) c.args.entry.now) c.args.words.now _
    (λ word. word.now) _ _ c.parse_number.result c.parse_claim-claim.result
    c.in-len2-up.len_at_least refl
    (sym (c.eq.ensures ∙ ap (bytes_eq (get_or c.args.words.now 0 _).now) c.as_slice.ensures) ∙ c.if-eq.true)
    c.parse_number.ensures c.parse_claim-claim.ensures)
    c.parse_reason.ensures
