use Rattle.std.proofs.Common.{ap, sym, ◌∙◌, arith}
use Rattle.toml.specs.View.{view, items_view}
use Rattle.toml.proofs.Views.{view-Array}
use Rattle.ct_fields.specs.Forms.{all_of}
use Rattle.ct_fields.specs.Cites.{cite_in, cites_in}
use Rattle.ct_fields.proofs.CiteLemmas.{cites_in-many, cites_in-few}
use Rattle.ct_fields.proofs.cites.cites_in.Goals as goal

pub returns-then-len-gt-MAX_CITES : goal.returns-then-len-gt-MAX_CITES
returns-then-len-gt-MAX_CITES c =
    let values = c.in-Array.values in
    let seen = ap view c.in-Array.is ∙ view-Array values in
    sym (ap cites_in seen ∙ cites_in-many values.items (omega arith))

pub returns-else-len-gt-MAX_CITES : goal.returns-else-len-gt-MAX_CITES
returns-else-len-gt-MAX_CITES c =
    let values = c.in-Array.values in
    let seen = ap view c.in-Array.is ∙ view-Array values in
    let same = ap (λ vs. all_of cite_in (items_view vs)) (sym c.deref.ensures.value) in
    rw (ap cites_in seen ∙ cites_in-few values.items (omega arith) ∙ same) c.all_cites.ensures
