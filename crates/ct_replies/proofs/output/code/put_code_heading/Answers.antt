use Rattle.std.proofs.Common.{List, ℕ, length, sym, ap, ◌∙◌}
use Rattle.std.specs.Fmt.{decimal}
use Rattle.ct_io.proofs.BufferedLemmas.{is_put_as}
use Rattle.ct_replies.proofs.Outputs.{plain_heading, weight_heading}
use Rattle.ct_replies.proofs.output.code.put_code_heading.Goals as goal

pub returns-in-None : goal.returns-in-None
returns-in-None g c =
    let n = c.as_bytes-n.ensures ∙ c.of-n.ensures ∙ ap decimal (c.from.ensures ∙ c.n.ensures.value) in
    let d = c.as_bytes-d.ensures ∙ c.of-d.ensures ∙ ap decimal (c.from-2.ensures ∙ c.d.ensures.value) in
    let size = c.as_bytes-size.ensures ∙ c.of-size.ensures ∙ ap (λ (words : List ℕ). decimal (length words)) c.words.ensures.value in
    let is = plain_heading c.args.code.now _ _ _ n d (sym c.in-None.is ∙ c.w.ensures.value) size in
    is_put_as _ _ _ _ _ is c.put_parts.ensures

pub returns-in-Some : goal.returns-in-Some
returns-in-Some g c =
    let n = c.as_bytes-n.ensures ∙ c.of-n.ensures ∙ ap decimal (c.from.ensures ∙ c.n.ensures.value) in
    let d = c.as_bytes-d.ensures ∙ c.of-d.ensures ∙ ap decimal (c.from-2.ensures ∙ c.d.ensures.value) in
    let w = c.as_bytes-w.ensures ∙ c.of-w.ensures ∙ ap decimal c.from-in-Some.ensures in
    let size = c.as_bytes-size.ensures ∙ c.of-size.ensures ∙ ap (λ (words : List ℕ). decimal (length words)) c.words.ensures.value in
    let is = weight_heading c.args.code.now _ _ _ c.in-Some.w _ n d (sym c.in-Some.is ∙ c.w.ensures.value) w size in
    is_put_as _ _ _ _ _ is c.put_parts-in-Some.ensures
