-- The text that is written for a document: the table of its evidence, with its cites.
use Rattle.std.proofs.Common.{◌≡◌, false, ℕ, ◌+◌, ◌≤◌, List, [], ◌∷◌, length, Option, Some, Ok, sym, ◌∙◌, subst, arith}
use Rattle.std.specs.Prelude.{IsTrue}
use Rattle.std.proofs.lemmas.List.Elements.{All-nil}
use Rattle.toml.specs.Data.{Data, table}
use Rattle.toml.specs.Text.{IsDocumentText}
use Rattle.ct_names.specs.Cite.{is_cite}
use Rattle.ct_fields.specs.Document.{table_of}
use Rattle.ct_fields.specs.Format.{format_of}
use Rattle.ct_fields.specs.Cites.{IsCites, cites_of}
use Rattle.ct_fields.specs.Written.{put_cites, cites_bytes}
use Rattle.ct_fields.proofs.StepLemmas.{bind-at}
use Rattle.ct_fields.proofs.CiteLemmas.{format_of-from, cites_of-from}
use Rattle.ct_fields.proofs.CitedTables.{alike-cited, cites-cited, format-cited, cited_format}
use Rattle.ct_fields.proofs.CitedSchema.{last-stated, reads-cited}
use Rattle.ct_fields.proofs.WrittenSchema.{kind-written}
use Rattle.ct_fields.proofs.CiteRooms.{fits-cited, cites_bytes-few}
use Rattle.ct_fields.proofs.TextLengths.{simple-fits, fits-more, fitting_length}
use Rattle.ct_kind.specs.declared.evidence.Evidence.{Evidence}
use Rattle.ct_files.specs.Kinds.{kind_of, kind_text, schema_of}
use Rattle.ct_files.specs.Evidence.{IsSound, evidence_of}
use Rattle.ct_files.specs.Document.{document_of, document_without_limit, document_read_of, WritesFormat}
use Rattle.ct_files.specs.Lengths.{most_bytes}
use Rattle.ct_files.specs.Inside.Written.{fields_of, evidence_table, HasIds}
use Rattle.ct_files.proofs.KindLaws.{laws_of_kind, laws_of}
use Rattle.ct_files.proofs.DocumentAnswers.{evidence_of-kind}
use Rattle.ct_files.proofs.Documents.{document_read_of-short}
use Rattle.ct_files.proofs.Written.{unformatted, fields-read}

-- nothing is cited
pub nothing_cited : IsCites []
nothing_cited = record { few = omega arith; each = All-nil (λ cite. IsTrue (is_cite cite)) }

-- with cites its table states the same evidence
evidence_of-cited : (e : Evidence) (cites : List (List ℕ)) → IsSound e → HasIds e → IsCites cites
    → evidence_of (table (put_cites cites (evidence_table e))) ≡ Ok e
evidence_of-cited e cites sound ids right =
    let ms = evidence_table e in
    let next = table (put_cites cites ms) in
    let first = unformatted e sound ids in
    let (f, has) = format-cited cites ms first in
    evidence_of-kind (kind_of e) next ((alike-cited cites ms).kind ∙ kind-written (kind_text (kind_of e)) (fields_of e))
    ∙ bind-at (format_of next) _ f (format_of-from next f has)
    ∙ reads-cited ms cites first right e [] (schema_of (kind_of e)) (laws_of_kind (kind_of e)).forms (fields-read e sound ids)

-- and has these cites
cites_of-cited : (e : Evidence) (cites : List (List ℕ)) → IsSound e → HasIds e → IsCites cites
    → cites_of (table (put_cites cites (evidence_table e))) ≡ Ok cites
cites_of-cited e cites sound ids right =
    let ms = evidence_table e in
    let (names, last) = last-stated [] (schema_of (kind_of e)) ms e (fields-read e sound ids) in
    cites_of-from (table (put_cites cites ms)) cites (cites-cited cites names ms (unformatted e sound ids) last right)

-- so it reads as the document
document_of-cited : (e : Evidence) (cites : List (List ℕ)) → IsSound e → HasIds e → IsCites cites
    → document_of (table (put_cites cites (evidence_table e))) ≡ Ok (record { evidence = e; cites = cites })
unfolding document_of
document_of-cited e cites sound ids right =
    let next = table (put_cites cites (evidence_table e)) in
    bind-at (evidence_of next) _ e (evidence_of-cited e cites sound ids right) ∙ bind-at (cites_of next) _ cites (cites_of-cited e cites sound ids right)

-- bytes that write the table of a document read as the document
pub document-written : (e : Evidence) (cites : List (List ℕ)) (bytes : List ℕ) → IsSound e → HasIds e → IsCites cites
    → table_of bytes ≡ Some (table (put_cites cites (evidence_table e)))
    → document_without_limit bytes ≡ Ok (record { evidence = e; cites = cites })
unfolding document_without_limit
document-written e cites bytes sound ids right written = rw written (document_of-cited e cites sound ids right)

-- they have no more than so many bytes
pub document-short : (e : Evidence) (cites : List (List ℕ)) (bytes : List ℕ) → IsSound e → HasIds e → IsCites cites
    → IsDocumentText false (put_cites cites (evidence_table e)) bytes → length bytes ≤ most_bytes e + cites_bytes cites
document-short e cites bytes sound ids right text =
    let holds = (laws_of e sound ids).holds in
    let fits = fits-more (evidence_table e) _ (most_bytes e) (simple-fits (evidence_table e) holds.simple) holds.small in
    fitting_length (put_cites cites (evidence_table e)) (most_bytes e + cites_bytes cites) bytes (fits-cited cites (evidence_table e) (most_bytes e) right fits) text

-- so they are within the limit
pub document-read : (e : Evidence) (cites : List (List ℕ)) (bytes : List ℕ) → IsSound e → HasIds e → IsCites cites
    → table_of bytes ≡ Some (table (put_cites cites (evidence_table e))) → IsDocumentText false (put_cites cites (evidence_table e)) bytes
    → document_read_of bytes ≡ Ok (record { evidence = e; cites = cites })
document-read e cites bytes sound ids right written text =
    let short = document-short e cites bytes sound ids right text in
    let few = cites_bytes-few cites right in
    let within = (laws_of e sound ids).few in
    document_read_of-short bytes (omega (arith, short, few, within)) ∙ document-written e cites bytes sound ids right written

-- and write format 2 exactly where there are cites
pub document-format : (e : Evidence) (cites : List (List ℕ)) (bytes : List ℕ) → IsSound e → HasIds e
    → table_of bytes ≡ Some (table (put_cites cites (evidence_table e))) → (found : Data) → table_of bytes ≡ Some found → WritesFormat cites found
document-format e cites bytes sound ids written found is =
    let same : table (put_cites cites (evidence_table e)) ≡ found = some-same (sym written ∙ is) in
    subst (WritesFormat cites) same (at cites)
  where
    some-same : {X : Type 0} {x y : X} → ◌≡◌ {A = Option X} (Some x) (Some y) → x ≡ y
    some-same h = cc

    at : (cs : List (List ℕ)) → WritesFormat cs (table (put_cites cs (evidence_table e)))
    at [] = unformatted e sound ids
    at (cite ∷ cs) = cited_format cite cs (evidence_table e)
