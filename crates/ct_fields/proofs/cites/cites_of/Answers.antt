use Rattle.std.proofs.Common.{Bool, [], Option, Ok, ap, ◌∙◌}
use Rattle.std.specs.Prelude.{if◌then◌else◌}
use Rattle.toml.specs.Data.{Data, get}
use Rattle.toml.specs.View.{view}
use Rattle.ct_fields.specs.Field.{field_text}
use Rattle.ct_fields.specs.Cites.{cites_at}
use Rattle.ct_fields.specs.declared.field.FieldName.TheVariants.{Cites}
use Rattle.ct_fields.specs.declared.fault.DocumentFault.TheVariants.{Field}
use Rattle.ct_fields.proofs.ReadSteps.{reads-found}
use Rattle.ct_fields.proofs.cites.cites_of.Goals as goal

pub returns-in_ok-cites_in-in-Some : goal.returns-in_ok-cites_in-in-Some
returns-in_ok-cites_in-in-Some c =
    let at = get (field_text Cites) (view c.args.document.now) in
    reads-found (λ v. v.items) c.ok_or.result c.in_ok-cites_in-in-Some.field-0 _ (Field Cites) _ c.ok_or.ensures.value c.in_ok-cites_in-in-Some.ensures
    (ap (λ (o : Option Data). cites_at o) c.in-Some.ensures ∙ ap (λ (b : Bool). if b then cites_at at else Ok []) c.if-not-may_cite.ensures)
