-- What bytes read as with their cites, and as evidence alone.
use Rattle.std.proofs.Common.{◌≡◌, ℕ, ◌≤◌, Bool, true, false, cond, List, [], length, Option, Some, None, option_map, Result, Ok, Err, IfOk, ◌⊎◌, inl, inr, refl, sym, ap, ◌∙◌, subst, le-leb}
use Rattle.std.proofs.lemmas.Bool.{lt-leb}
use Rattle.std.proofs.lemmas.Str.{is_utf8-from_IsUtf8}
use Rattle.std.specs.Str.{is_utf8}
use Rattle.toml.specs.Data.{Data, table, Members}
use Rattle.toml.specs.Parse.{parse_document}
use Rattle.ct_fields.specs.Document.{table_of}
use Rattle.ct_fields.specs.Steps.{◌>>=◌}
use Rattle.ct_fields.specs.Reads.{Reads}
use Rattle.ct_fields.specs.Cites.{cites_of}
use Rattle.ct_fields.specs.HasCites.{HasRightCites}
use Rattle.ct_fields.specs.Format.{format_of}
use Rattle.ct_fields.specs.declared.document.TheConstants.{MAX_DOCUMENT}
use Rattle.ct_fields.specs.declared.fault.DocumentFault.{DocumentFault}
use Rattle.ct_fields.proofs.StepLemmas.{bind-ok}
use Rattle.ct_fields.proofs.CiteLemmas.{cites_of-ok, cites_of-from, HasCites-right}
use Rattle.ct_fields.proofs.CitedSchema.{last-stated}
use Rattle.ct_kind.specs.declared.evidence.Evidence.{Evidence}
use Rattle.ct_files.specs.Kinds.{kind_in, schema_of, evidence_by}
use Rattle.ct_files.specs.Evidence.{evidence_of, read_without_limit, read_of}
use Rattle.ct_files.specs.Document.{DocumentValue, IsRightDocument, document_of, document_without_limit, document_read_of, evidence_part, AcceptsDocument}
use Rattle.ct_files.proofs.DocumentAnswers.{short_or_long, document_from, read_of-document, read_of-long}
use Rattle.ct_files.proofs.Evidences.{read_without_limit-sound}

-- ---- tables

-- a table that reads as an evidence has right cites
table-cites : (ms : Members) (e : Evidence) → evidence_of (table ms) ≡ Ok e → HasRightCites (table ms)
unfolding evidence_of
table-cites ms e read =
    let (k, k-is, next) = bind-ok (kind_in (table ms)) _ e read in
    let (f, f-is, states) = bind-ok (format_of (table ms)) (λ _. evidence_by k (table ms)) e next in
    let (names, last) = last-stated [] (schema_of k) ms e states in
    last.cited

-- the document of a table has the evidence of the table, or the same fault
document_of-part : (ms : Members) → evidence_of (table ms) ≡ evidence_part (document_of (table ms))
unfolding document_of
document_of-part ms = at (evidence_of (table ms)) refl
  where
    at : (read : Result Evidence DocumentFault) → evidence_of (table ms) ≡ read
        → read ≡ evidence_part (read >>= (λ e. cites_of (table ms) >>= (λ cites. Ok (record { evidence = e; cites = cites }))))
    at (Err fault) is = refl
    at (Ok e) is = let (cites, has) = table-cites ms e is in rw (cites_of-from (table ms) cites has) refl

-- ---- bytes

-- bytes write a table, or none
table_or_none : (bytes : List ℕ) → ((ms : Members) × (table_of bytes ≡ Some (table ms))) ⊎ (table_of bytes ≡ None)
unfolding table_of
table_or_none bytes = at (is_utf8 bytes) (parse_document bytes)
  where
    at : (b : Bool) (parsed : Option Members)
        → ((ms : Members) × (cond b (option_map table parsed) None ≡ Some (table ms))) ⊎ (cond b (option_map table parsed) None ≡ None)
    at true (Some ms) = inl (ms, refl)
    at true None = inr refl
    at false parsed = inr refl

pub read_without_limit-part : (bytes : List ℕ) → read_without_limit bytes ≡ evidence_part (document_without_limit bytes)
unfolding read_without_limit document_without_limit
read_without_limit-part bytes =
    elim (table_or_none bytes) [
      | inl (ms, is) ↦ rw is (document_of-part ms)
      | inr none ↦ rw none refl
    ]

-- bytes that are not too many read as without the limit, and the others are refused
pub document_read_of-short : (bytes : List ℕ) → length bytes ≤ MAX_DOCUMENT → document_read_of bytes ≡ document_without_limit bytes
unfolding document_read_of
document_read_of-short bytes short = rw (le-leb (length bytes) MAX_DOCUMENT short) refl

pub read_of-part : (bytes : List ℕ) → read_of bytes ≡ evidence_part (document_read_of bytes)
unfolding read_of document_read_of
read_of-part bytes =
    elim (short_or_long bytes) [
      | inl short ↦ rw (le-leb (length bytes) MAX_DOCUMENT short) (read_without_limit-part bytes)
      | inr long ↦ rw (lt-leb (length bytes) MAX_DOCUMENT long) refl
    ]

-- the evidence of a document that is read
pub document_read_of-evidence : (bytes : List ℕ) (d : DocumentValue) → document_read_of bytes ≡ Ok d → read_of bytes ≡ Ok d.evidence
document_read_of-evidence bytes d read = read_of-part bytes ∙ ap evidence_part read

pub document_without_limit-evidence : (bytes : List ℕ) (d : DocumentValue) → document_without_limit bytes ≡ Ok d → read_without_limit bytes ≡ Ok d.evidence
document_without_limit-evidence bytes d read = read_without_limit-part bytes ∙ ap evidence_part read

-- the fault is the same
pub document_read_of-err : (bytes : List ℕ) (fault : DocumentFault) → document_read_of bytes ≡ Err fault → read_of bytes ≡ Err fault
document_read_of-err bytes fault read = read_of-part bytes ∙ ap evidence_part read

err-from : (read : Result DocumentValue DocumentFault) (fault : DocumentFault) → evidence_part read ≡ Err fault → read ≡ Err fault
err-from (Ok d) fault e = absurd cc
err-from (Err other) fault e = let same : other ≡ fault = cc in ap (λ (f : DocumentFault). Err f) same

pub document_read_of-fault : (bytes : List ℕ) (fault : DocumentFault) → read_of bytes ≡ Err fault → document_read_of bytes ≡ Err fault
document_read_of-fault bytes fault read = err-from (document_read_of bytes) fault (sym (read_of-part bytes) ∙ read)

-- a document that is read is within the limit, and reads so without it
pub document_read_of-within : (bytes : List ℕ) (d : DocumentValue) → document_read_of bytes ≡ Ok d → length bytes ≤ MAX_DOCUMENT
document_read_of-within bytes d read =
    elim (short_or_long bytes) [
      | inl within ↦ within
      | inr long ↦ let never = sym (document_read_of-evidence bytes d read) ∙ read_of-long bytes long in absurd cc
    ]

pub document_read_of-without_limit : (bytes : List ℕ) (d : DocumentValue) → document_read_of bytes ≡ Ok d → document_without_limit bytes ≡ Ok d
document_read_of-without_limit bytes d read = sym (document_read_of-short bytes (document_read_of-within bytes d read)) ∙ read

-- ---- what stands of a document that is read

-- its table has its cites
parts_of : (document : Data) (d : DocumentValue) → document_of document ≡ Ok d → (evidence_of document ≡ Ok d.evidence) × (cites_of document ≡ Ok d.cites)
unfolding document_of
parts_of document d read =
    let (e, e-is, next) = bind-ok (evidence_of document) _ d read in
    let (cites, cites-are, last) = bind-ok (cites_of document) _ d next in
    let same : ◌≡◌ {A = DocumentValue} (record { evidence = e; cites = cites }) d = cc in
    (e-is ∙ ap (λ (v : DocumentValue). Ok v.evidence) same, cites-are ∙ ap (λ (v : DocumentValue). Ok v.cites) same)

-- bytes that read as a document, however many they are, write a table that does
without_limit-table : (bytes : List ℕ) (d : DocumentValue) → document_without_limit bytes ≡ Ok d
    → (ms : Members) × (table_of bytes ≡ Some (table ms)) × (document_of (table ms) ≡ Ok d)
unfolding document_without_limit
without_limit-table bytes d read =
    elim (table_or_none bytes) [
      | inl (ms, is) ↦ (ms, is, rw is at read)
      | inr none ↦ let never = rw none at read in absurd cc
    ]

pub document_without_limit-right : (bytes : List ℕ) (d : DocumentValue) → document_without_limit bytes ≡ Ok d → IsRightDocument d
document_without_limit-right bytes d read =
    let (ms, is, whole) = without_limit-table bytes d read in
    let (e, cites) = parts_of (table ms) d whole in (
      read_without_limit-sound bytes d.evidence (document_without_limit-evidence bytes d read),
      HasCites-right (table ms) d.cites (cites_of-ok (table ms) d.cites cites),
    )

pub document_read_of-right : (bytes : List ℕ) (d : DocumentValue) → document_read_of bytes ≡ Ok d → IsRightDocument d
document_read_of-right bytes d read = document_without_limit-right bytes d (document_read_of-without_limit bytes d read)

-- an answer that is what the bytes give is right
pub Reads-right : {X : Type 0} (view : X → DocumentValue) (bytes : List ℕ) (answer : Result X DocumentFault) → Reads view answer (document_read_of bytes)
    → IfOk answer (λ x. IsRightDocument (view x))
Reads-right view bytes (Ok x) reads = document_read_of-right bytes (view x) reads
Reads-right view bytes (Err fault) reads = tt

-- ---- which documents are accepted

pub accepted_document : (bytes : List ℕ) (d : DocumentValue) → document_read_of bytes ≡ Ok d → AcceptsDocument bytes d
accepted_document bytes d read =
    let within = document_read_of-within bytes d read in
    let (ms, is, whole) = without_limit-table bytes d (document_read_of-without_limit bytes d read) in
    let (e, cites) = parts_of (table ms) d whole in
    record {
      table = table ms;
      written = document_from bytes (table ms) within is;
      evidence = document_read_of-evidence bytes d read;
      cites = cites_of-ok (table ms) d.cites cites;
    }

pub accepted_document-from : (bytes : List ℕ) (d : DocumentValue) → AcceptsDocument bytes d → document_read_of bytes ≡ Ok d
unfolding document_without_limit document_of table_of
accepted_document-from bytes d a =
    let (ms, parsed, same) = a.written.written in
    let e = sym (read_of-document bytes a.table a.written) ∙ a.evidence in
    let cites = cites_of-from a.table d.cites a.cites in
    document_read_of-short bytes a.written.short
    ∙ rw (is_utf8-from_IsUtf8 bytes a.written.utf8, parsed) (rw (subst (λ (t : Data). evidence_of t ≡ Ok d.evidence) same e, subst (λ (t : Data). cites_of t ≡ Ok d.cites) same cites) refl)
