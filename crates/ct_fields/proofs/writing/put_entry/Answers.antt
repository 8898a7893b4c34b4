use Rattle.std.proofs.Common.{codes, ap, ◌∙◌}
use Rattle.std.proofs.lemmas.Result.{on_ok_weaker}
use Rattle.toml.specs.View.{table_view}
use Rattle.ct_fields.specs.Written.{set_member, put}
use Rattle.ct_fields.specs.declared.field.FieldName.TheVariants as name
use Rattle.ct_fields.proofs.writing.put_entry.Goals as goal

pub returns : goal.returns
returns c =
    let first = c.in_ok-put_at.ensures ∙ ap (λ kind. set_member (codes "kind") kind (table_view c.args.table.now)) c.in_ok-string.ensures in
    let second = c.in_ok-put.ensures ∙ (λ i. put name.N (c.from.ensures i) (first i)) in
    on_ok_weaker c.put-2.result (λ third. third ∙ (λ i. put name.D (c.from-2.ensures i) (second i))) c.put-2.ensures
