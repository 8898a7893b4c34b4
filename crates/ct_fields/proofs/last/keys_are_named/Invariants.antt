use Rattle.std.proofs.Common.{◌≡◌}
use Rattle.toml.specs.View.{table_view, members_view}
use Rattle.ct_fields.specs.Fields.{keys_are_named}
use Rattle.ct_fields.specs.LastFields.{all_fields}
use Rattle.ct_fields.proofs.last.keys_are_named.Given as goal

abbrev pub invariant-loop-key : goal.invariant-loop-key
invariant-loop-key l = keys_are_named (all_fields l.cites l.names) (members_view l.key-iterator) ≡ keys_are_named (all_fields l.cites l.names) (table_view l.table)
