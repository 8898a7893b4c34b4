use Rattle.std.proofs.Common.{◌≡◌, ◌+◌, ◌++◌, ◌<◌, ◌^◌, ℕ, List, All, sym, ap, subst, ◌∙◌, arith}
use Rattle.std.proofs.lemmas.List.Elements.{All-weaker}
use Rattle.ct_rules.specs.Derivation.{LineValue}
use Rattle.std.specs.Prelude.{OnOk}
use Rattle.ct_derive.specs.Text.{line_text}
use Rattle.ct_derive.proofs.text.put_line.Goals as goal

pub put_parts-requires : goal.put_parts-requires
put_parts-requires c =
    let from = c.as_slice.ensures ∙ ap (λ (l : LineValue). l.from) c.line.view_is in
    subst (λ (places : List ℕ). All (λ p. p + 1 < 2 ^ 64) places) (sym from)
    (All-weaker (λ p. p < c.args.number) (λ p. p + 1 < 2 ^ 64) (λ p lower. omega (arith, c.ranges.number)) c.args.line.now.from c.requires)

pub returns : goal.returns
returns c =
    let same = ap (λ (from : List ℕ). record { claim = c.line.inside.claim; rule = c.line.inside.rule; from = from }) c.as_slice.ensures ∙ c.line.view_is in
    subst
    (λ (l : LineValue). OnOk c.put_parts.result (c.put_parts.new.text.items ≡ c.args.text.now.items ++ line_text c.args.ids.now c.args.number l))
    same c.put_parts.ensures
