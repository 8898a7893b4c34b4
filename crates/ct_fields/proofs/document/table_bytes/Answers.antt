use Rattle.std.proofs.Common.{string_bytes}
use Rattle.std.proofs.lemmas.Str.{IsUtf8-string_bytes}
use Rattle.ct_fields.proofs.Documents.{table_of-parsed}
use Rattle.ct_fields.proofs.TextLengths.{document_length}
use Rattle.ct_fields.proofs.document.table_bytes.Goals as goal

pub returns-in-Ok-clause-written : goal.returns-in-Ok-clause-written
returns-in-Ok-clause-written c =
    rw c.into_bytes.ensures.value
    (table_of-parsed (string_bytes c.in-Ok.text) _ (IsUtf8-string_bytes c.in-Ok.text) (c.in-Ok.ensures.reads_back c.requires))

pub returns-in-Ok-clause-room : goal.returns-in-Ok-clause-room
returns-in-Ok-clause-room c = λ simple.
    rw c.into_bytes.ensures.value (document_length _ (string_bytes c.in-Ok.text) simple c.in-Ok.ensures.text)

pub returns-in-Ok-clause-text : goal.returns-in-Ok-clause-text
returns-in-Ok-clause-text c = rw c.into_bytes.ensures.value c.in-Ok.ensures.text
