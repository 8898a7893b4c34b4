use Rattle.std.proofs.Common.{sym, ap, ◌∙◌}
use Rattle.std.proofs.lemmas.Result.{IfOk-weaker}
use Rattle.toml.specs.View.{view}
use Rattle.toml.proofs.Views.{view-String}
use Rattle.ct_names.specs.Cite.{cite_of}
use Rattle.ct_fields.specs.Cites.{cite_in}
use Rattle.ct_fields.proofs.cites.cite_in.Goals as goal

pub returns-in-String : goal.returns-in-String
returns-in-String c =
    let seen = ap view c.in-String.is ∙ view-String c.in-String.text in
    IfOk-weaker c.parse.result _ _ (λ cite is. is ∙ ap cite_of c.as_bytes.ensures.value ∙ sym (ap cite_in seen)) c.parse.ensures
