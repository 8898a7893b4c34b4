use Rattle.std.proofs.Common.{ℕ, Option, ap, sym, ◌∙◌}
use Rattle.std.specs.Prelude.{option_map, pos}
use Rattle.std.proofs.lemmas.Result.{on_ok_weaker}
use Rattle.toml.specs.Data.{Data, integer}
use Rattle.toml.specs.View.{table_view}
use Rattle.ct_fields.specs.Written.{put}
use Rattle.ct_fields.specs.WrittenSchema.{put_some}
use Rattle.ct_fields.specs.declared.field.FieldName.TheVariants as name
use Rattle.ct_fields.proofs.writing.put_weight.Goals as goal

pub returns-in-Some : goal.returns-in-Some
returns-in-Some c =
    let old = table_view c.args.table.now in
    let weight = ap (λ (w : Option ℕ). put_some name.W (option_map (λ k. integer (pos k)) w) old) (sym c.in-Some.is) in
    on_ok_weaker c.put.result (λ done. done ∙ ap (λ (d : Data). put name.W d old) c.from.ensures ∙ weight) c.put.ensures

pub returns-in-None : goal.returns-in-None
returns-in-None c = ap (λ (w : Option ℕ). put_some name.W (option_map (λ k. integer (pos k)) w) (table_view c.args.table.now)) (sym c.in-None.is)
