use Rattle.std.proofs.Common.{ℕ, List, IsTrue, Option, option_map, IfSome, sym, ap, subst, ◌∙◌}
use Rattle.std.proofs.lemmas.Result.{on_ok_weaker}
use Rattle.toml.specs.Data.{string}
use Rattle.toml.specs.View.{table_view}
use Rattle.ct_names.specs.Id.{is_id}
use Rattle.ct_fields.specs.WrittenSchema.{put_some}
use Rattle.ct_fields.specs.declared.field.FieldName.TheVariants.{Other}
use Rattle.ct_build_files.proofs.written_build.put_other.Goals as goal

pub returns-in-Some-clause-table : goal.returns-in-Some-clause-table
returns-in-Some-clause-table c =
    on_ok_weaker c.put_id.result (λ put. put ∙ ap (λ (o : Option (List ℕ)). put_some Other (option_map string o) (table_view c.args.table.now)) (sym c.in-Some.is))
    c.put_id.ensures.table

pub returns-in-Some-clause-id : goal.returns-in-Some-clause-id
returns-in-Some-clause-id c = subst (λ (o : Option (List ℕ)). IfSome o (λ id. IsTrue (is_id id))) (sym c.in-Some.is) c.put_id.ensures.id

pub returns-in-None-clause-table : goal.returns-in-None-clause-table
returns-in-None-clause-table c = ap (λ (o : Option (List ℕ)). put_some Other (option_map string o) (table_view c.args.table.now)) (sym c.in-None.is)

pub returns-in-None-clause-id : goal.returns-in-None-clause-id
returns-in-None-clause-id c = subst (λ (o : Option (List ℕ)). IfSome o (λ id. IsTrue (is_id id))) (sym c.in-None.is) tt
