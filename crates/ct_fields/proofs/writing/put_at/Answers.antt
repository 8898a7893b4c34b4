use Rattle.std.proofs.Common.{◌∙◌, ap}
use Rattle.toml.specs.View.{view, table_view, members_view}
use Rattle.ct_fields.specs.Written.{set_member}
use Rattle.ct_fields.proofs.MemberLemmas.{members_view-insert}
use Rattle.ct_fields.proofs.writing.put_at.Goals as goal

pub returns : goal.returns
returns c =
    ap members_view c.in_ok-insert.ensures.entries
    ∙ members_view-insert c.in_ok-from_str.field-0 c.args.value c.args.table.now.entries
    ∙ ap (λ k. set_member k (view c.args.value) (table_view c.args.table.now)) c.in_ok-from_str.ensures.ok
