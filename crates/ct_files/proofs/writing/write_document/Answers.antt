use Rattle.std.proofs.Common.{false, IsTrue, ◌∙◌, ap, subst, Some}
use Rattle.std.specs.Prelude.{All}
use Rattle.std.proofs.lemmas.Result.{IfOk-weaker}
use Rattle.toml.specs.Data.{Members, table}
use Rattle.toml.specs.Text.{IsDocumentText}
use Rattle.ct_names.specs.Cite.{is_cite}
use Rattle.ct_fields.specs.Cites.{IsCites}
use Rattle.ct_fields.specs.Written.{put_cites}
use Rattle.ct_fields.proofs.CitedTables.{depth-cited}
use Rattle.ct_files.proofs.Lengths.{IfOk-both}
use Rattle.ct_files.proofs.Written.{evidence_depth}
use Rattle.ct_files.proofs.WrittenDocuments.{document-written, document-read, document-short, document-format}
use Rattle.ct_files.proofs.writing.write_document.Goals as goal

pub table_bytes-requires : goal.table_bytes-requires
table_bytes-requires c =
    let e = c.args.document.now.evidence in
    let cites_are = c.deref.ensures.value in
    let is = c.in_ok-put_cites.ensures.table ∙ (λ i. put_cites (cites_are i) (c.in_ok-table.ensures.table i)) in
    rw is (depth-cited c.args.document.now.cites.items _ (evidence_depth e c.requires.sound c.in_ok-table.ensures.ids))

pub returns-clause-without_limit : goal.returns-clause-without_limit
returns-clause-without_limit c =
    let e = c.args.document.now.evidence in
    let cites = c.args.document.now.cites.items in
    let cites_are = c.deref.ensures.value in
    let is = c.in_ok-put_cites.ensures.table ∙ (λ i. put_cites (cites_are i) (c.in_ok-table.ensures.table i)) in
    let right : IsCites cites = record { few = c.requires.few; each = subst (All (λ cite. IsTrue (is_cite cite))) cites_are c.in_ok-put_cites.ensures.cites } in
    IfOk-weaker c.table_bytes.result _ _
    (λ bytes written. document-written e cites bytes.items c.requires.sound c.in_ok-table.ensures.ids right (written ∙ ap (λ (ms : Members). Some (table ms)) is))
    c.table_bytes.ensures.written

pub returns-clause-read : goal.returns-clause-read
returns-clause-read c =
    let e = c.args.document.now.evidence in
    let cites = c.args.document.now.cites.items in
    let cites_are = c.deref.ensures.value in
    let is = c.in_ok-put_cites.ensures.table ∙ (λ i. put_cites (cites_are i) (c.in_ok-table.ensures.table i)) in
    let right : IsCites cites = record { few = c.requires.few; each = subst (All (λ cite. IsTrue (is_cite cite))) cites_are c.in_ok-put_cites.ensures.cites } in
    IfOk-both c.table_bytes.result _ _ _
    (λ bytes written text. document-read e cites bytes.items c.requires.sound c.in_ok-table.ensures.ids right (written ∙ ap (λ (ms : Members). Some (table ms)) is)
    (subst (λ (ms : Members). IsDocumentText false ms bytes.items) is text))
    c.table_bytes.ensures.written c.table_bytes.ensures.text

pub returns-clause-format : goal.returns-clause-format
returns-clause-format c =
    let e = c.args.document.now.evidence in
    let cites = c.args.document.now.cites.items in
    let cites_are = c.deref.ensures.value in
    let is = c.in_ok-put_cites.ensures.table ∙ (λ i. put_cites (cites_are i) (c.in_ok-table.ensures.table i)) in
    IfOk-weaker c.table_bytes.result _ _
    (λ bytes written. document-format e cites bytes.items c.requires.sound c.in_ok-table.ensures.ids (written ∙ ap (λ (ms : Members). Some (table ms)) is))
    c.table_bytes.ensures.written

pub returns-clause-length : goal.returns-clause-length
returns-clause-length c =
    let e = c.args.document.now.evidence in
    let cites = c.args.document.now.cites.items in
    let cites_are = c.deref.ensures.value in
    let is = c.in_ok-put_cites.ensures.table ∙ (λ i. put_cites (cites_are i) (c.in_ok-table.ensures.table i)) in
    let right : IsCites cites = record { few = c.requires.few; each = subst (All (λ cite. IsTrue (is_cite cite))) cites_are c.in_ok-put_cites.ensures.cites } in
    IfOk-weaker c.table_bytes.result _ _
    (λ bytes text. document-short e cites bytes.items c.requires.sound c.in_ok-table.ensures.ids right (subst (λ (ms : Members). IsDocumentText false ms bytes.items) is text))
    c.table_bytes.ensures.text
