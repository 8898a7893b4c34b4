use Rattle.std.proofs.Common.{Option, ok_or, sym, ap, ◌∙◌}
use Rattle.std.specs.String.{string_bytes}
use Rattle.toml.specs.View.{view}
use Rattle.ct_fields.specs.declared.field.FieldName.TheVariants.{Op}
use Rattle.ct_fields.specs.declared.fault.DocumentFault.TheVariants.{Field}
use Rattle.ct_build_files.specs.declared.operation.Operation.{Operation}
use Rattle.ct_build_files.proofs.ReadOperation.{operation_read}
use Rattle.ct_build_files.proofs.build_fields.operation_field.Goals as goal

pub returns-in-Some : goal.returns-in-Some
returns-in-Some c =
    ap (λ (o : Option Operation). ok_or o (Field Op)) (sym c.in-Some.is)
    ∙ operation_read (view c.args.document.now) c.text.result.now c.as_str.result.now c.in-Some-String.field-0.now c.in-Some-String.text c.named.result
    c.in-Some-String.ensures c.text.ensures c.in-Some-String.field-0-is (c.as_str.ensures.value ∙ ap string_bytes c.in-Some-String.text-is) c.named.ensures

pub returns-in-None : goal.returns-in-None
returns-in-None c =
    ap (λ (o : Option Operation). ok_or o (Field Op)) (sym c.in-None.is)
    ∙ operation_read (view c.args.document.now) c.text.result.now c.as_str.result.now c.in-Some-String.field-0.now c.in-Some-String.text c.named.result
    c.in-Some-String.ensures c.text.ensures c.in-Some-String.field-0-is (c.as_str.ensures.value ∙ ap string_bytes c.in-Some-String.text-is) c.named.ensures
