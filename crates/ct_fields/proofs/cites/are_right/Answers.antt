use Rattle.std.proofs.Common.{Bool, [], Option, Ok, is_ok, ap, ◌∙◌}
use Rattle.std.specs.Prelude.{if◌then◌else◌}
use Rattle.toml.specs.Data.{Data, get}
use Rattle.toml.specs.View.{view}
use Rattle.ct_fields.specs.Field.{field_text}
use Rattle.ct_fields.specs.Cites.{cites_in, cites_at}
use Rattle.ct_fields.specs.declared.field.FieldName.TheVariants.{Cites}
use Rattle.ct_fields.specs.declared.fault.DocumentFault.TheVariants.{Field}
use Rattle.ct_fields.proofs.ReadSteps.{is_found}
use Rattle.ct_fields.proofs.cites.are_right.Goals as goal

pub returns-in-Some : goal.returns-in-Some
returns-in-Some c =
    let at = get (field_text Cites) (view c.args.document.now) in
    c.are_cites.ensures ∙ is_found (cites_in (view c.in-Some.value.now)) (Field Cites)
    ∙ ap is_ok (ap (λ (o : Option Data). cites_at o) c.in-Some.ensures ∙ ap (λ (b : Bool). if b then cites_at at else Ok []) c.if-not-may_cite.ensures)
