use Rattle.std.proofs.Common.{List, String, Global, codes, pos, ap, ◌∙◌}
use Rattle.toml.specs.Data.{string, integer}
use Rattle.toml.specs.View.{members_view}
use Rattle.toml.specs.declared.value.Value.{Value}
use Rattle.ct_fields.specs.Written.{set_member, put}
use Rattle.ct_fields.specs.declared.field.FieldName.TheVariants as name
use Rattle.ct_fields.proofs.writing.entry_table.Goals as goal

pub returns : goal.returns
returns c =
    c.in_ok-put_entry.ensures
    ∙ ap (λ (es : List (String Global × Value)). put name.D (integer (pos c.args.d)) (put name.N (integer (pos c.args.n))
    (set_member (codes "kind") (string c.args.kind.now) (members_view es)))) c.new-table.ensures.empty
