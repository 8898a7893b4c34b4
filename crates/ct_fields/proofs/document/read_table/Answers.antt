use Rattle.std.proofs.Common.{sym, ◌∙◌, refl}
use Rattle.std.proofs.lemmas.Bool.{false≢true}
use Rattle.toml.proofs.Views.{view-Table}
use Rattle.ct_fields.proofs.Documents.{table_of-parsed, table_of-refused}
use Rattle.ct_fields.proofs.document.read_table.Goals as goal

pub returns-in-Ok : goal.returns-in-Ok
returns-in-Ok c = rw (view-Table c.in-Ok.table, table_of-parsed c.args.bytes.now _ c.in-Ok.ensures.ok.0 c.in-Ok.ensures.ok.1) refl

pub returns-else-is_memory : goal.returns-else-is_memory
returns-else-is_memory c = λ _. rw (table_of-refused c.args.bytes.now (c.in-Err.ensures.refused (λ memory. false≢true (sym c.if-is_memory.false ∙ c.is_memory.ensures.1 memory)))) refl

pub returns-then-is_memory : goal.returns-then-is_memory
returns-then-is_memory c = λ other. absurd (other refl)
