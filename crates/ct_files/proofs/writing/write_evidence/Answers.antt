use Rattle.std.proofs.Common.{◌∙◌, ap, subst, false, [], Some}
use Rattle.std.proofs.lemmas.Result.{IfOk-weaker}
use Rattle.toml.specs.Data.{Members, table}
use Rattle.toml.specs.Text.{IsDocumentText}
use Rattle.ct_files.proofs.Lengths.{IfOk-both, written-read, written-short}
use Rattle.ct_files.proofs.Written.{read-written, evidence_depth}
use Rattle.ct_files.proofs.WrittenDocuments.{nothing_cited, document-written, document-read}
use Rattle.ct_files.proofs.writing.write_evidence.Goals as goal

pub table_bytes-requires : goal.table_bytes-requires
table_bytes-requires c = rw c.in_ok-table.ensures.table (evidence_depth c.args.evidence.now c.requires c.in_ok-table.ensures.ids)

pub returns-clause-without_limit : goal.returns-clause-without_limit
returns-clause-without_limit c =
    IfOk-weaker c.table_bytes.result _ _ (λ bytes written. read-written c.args.evidence.now bytes.items c.requires c.in_ok-table.ensures.ids (written ∙ ap (λ ms. Some (table ms)) c.in_ok-table.ensures.table)) c.table_bytes.ensures.written

pub returns-clause-read : goal.returns-clause-read
returns-clause-read c =
    IfOk-both c.table_bytes.result _ _ _
    (λ bytes written room. written-read c.args.evidence.now _ bytes.items c.requires c.in_ok-table.ensures.ids c.in_ok-table.ensures.table written room)
    c.table_bytes.ensures.written c.table_bytes.ensures.room

pub returns-clause-length : goal.returns-clause-length
returns-clause-length c =
    IfOk-weaker c.table_bytes.result _ _
    (λ bytes room. written-short c.args.evidence.now _ bytes.items c.requires c.in_ok-table.ensures.ids c.in_ok-table.ensures.table room) c.table_bytes.ensures.room

pub returns-clause-document_without_limit : goal.returns-clause-document_without_limit
returns-clause-document_without_limit c =
    IfOk-weaker c.table_bytes.result _ _
    (λ bytes written. document-written c.args.evidence.now [] bytes.items c.requires c.in_ok-table.ensures.ids nothing_cited (written ∙ ap (λ (ms : Members). Some (table ms)) c.in_ok-table.ensures.table))
    c.table_bytes.ensures.written

pub returns-clause-document : goal.returns-clause-document
returns-clause-document c =
    IfOk-both c.table_bytes.result _ _ _
    (λ bytes written text. document-read c.args.evidence.now [] bytes.items c.requires c.in_ok-table.ensures.ids nothing_cited
    (written ∙ ap (λ (ms : Members). Some (table ms)) c.in_ok-table.ensures.table)
    (subst (λ (ms : Members). IsDocumentText false ms bytes.items) c.in_ok-table.ensures.table text))
    c.table_bytes.ensures.written c.table_bytes.ensures.text
