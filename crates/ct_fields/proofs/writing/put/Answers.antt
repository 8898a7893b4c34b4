use Rattle.std.proofs.Common.{List, ℕ, ap, ◌∙◌}
use Rattle.std.proofs.lemmas.Result.{on_ok_weaker}
use Rattle.toml.specs.View.{view, table_view}
use Rattle.ct_fields.specs.Written.{set_member}
use Rattle.ct_fields.proofs.writing.put.Goals as goal

pub returns : goal.returns
returns c =
    let key = ap (λ (k : List ℕ). set_member k (view c.args.value) (table_view c.args.table.now)) c.text.ensures in
    on_ok_weaker c.put_at.result (λ done. done ∙ key) c.put_at.ensures
