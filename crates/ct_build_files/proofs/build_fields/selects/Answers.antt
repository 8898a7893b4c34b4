use Rattle.std.proofs.Common.{ap, ◌∙◌}
use Rattle.std.specs.String.{string_bytes}
use Rattle.toml.specs.View.{view}
use Rattle.ct_build_files.proofs.ReadOperation.{select_read}
use Rattle.ct_build_files.proofs.build_fields.selects.Goals as goal

pub returns-in-Some-String : goal.returns-in-Some-String
returns-in-Some-String c =
    select_read (view c.args.document.now) c.text.result.now c.as_str.result.now c.in-Some-String.field-0.now c.in-Some-String.found c.eq.result
    c.in-Some-String.ensures c.text.ensures c.in-Some-String.field-0-is (c.as_str.ensures.value ∙ ap string_bytes c.in-Some-String.found-is) c.eq.ensures
