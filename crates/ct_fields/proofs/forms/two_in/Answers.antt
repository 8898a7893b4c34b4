use Rattle.std.proofs.Common.{map, sym, ap, ◌∙◌, arith}
use Rattle.std.proofs.lemmas.List.{length-map}
use Rattle.toml.specs.View.{view}
use Rattle.toml.proofs.Views.{view-Array}
use Rattle.ct_fields.specs.Forms.{two_in}
use Rattle.ct_fields.proofs.FormLemmas.{two_in-other, two_in-both}
use Rattle.ct_fields.proofs.forms.two_in.Goals as goal

pub returns-then-len-ne2 : goal.returns-then-len-ne2
returns-then-len-ne2 c =
    let values = c.in-Array.values in
    let same = length-map values.items view in
    let seen = ap view c.in-Array.is ∙ view-Array values in
    sym (ap two_in seen ∙ two_in-other (map view values.items) (λ two. c.if-len-ne2.true (omega arith)))

pub returns : goal.returns
returns c =
    let values = c.in-Array.values in
    let seen = ap view c.in-Array.is ∙ view-Array values in
    two_in-both values.items c.index.result.now c.index-2.result.now (omega arith) c.index.ensures c.index-2.ensures ∙ sym (ap two_in seen)
