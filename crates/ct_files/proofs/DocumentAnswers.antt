-- Where each answer comes for bytes and for the table that they write: what is said of each kind, and once of all.
use Rattle.std.proofs.Common.{◌≡◌, ℕ, ◌<◌, ◌≤◌, Bool, true, false, nat_le, List, [], ◌∷◌, length, Option, Some, None, option_map, Result, Ok, Err, ◌⊎◌, inl, inr, refl, sym, ap, ◌∙◌, subst, le-leb, leb-false}
use Rattle.std.specs.Prelude.{◌↔◌, if◌then◌else◌}
use Rattle.std.specs.Str.{is_utf8}
use Rattle.std.proofs.lemmas.Bool.{cases_Bool, leb-true, lt-leb, false≢true}
use Rattle.std.proofs.lemmas.Str.{IsUtf8-from_is_utf8, is_utf8-from_IsUtf8}
use Rattle.toml.specs.Data.{Data, table, Members}
use Rattle.toml.specs.Parse.{parse_document}
use Rattle.ct_fields.specs.Fields.{is_of_kind}
use Rattle.ct_fields.specs.Document.{table_of}
use Rattle.ct_fields.specs.Tables.{IsDocument, IsOfKind}
use Rattle.ct_fields.specs.declared.document.TheConstants.{MAX_DOCUMENT}
use Rattle.ct_fields.specs.declared.fault.DocumentFault.{DocumentFault}
use Rattle.ct_fields.specs.declared.fault.DocumentFault.TheVariants.{Bytes, NotToml, Field, Kind as NoKind}
use Rattle.ct_fields.proofs.FieldLemmas.{is_of_kind-true, is_of_kind-from}
use Rattle.ct_kind.specs.declared.evidence.Evidence.{Evidence}
use Rattle.ct_files.specs.Evidence.{evidence_of, read_without_limit, read_of}
use Rattle.ct_files.specs.Kinds.{kind_of, kind_text, kind_in, schema_of, evidence_by}
use Rattle.ct_files.specs.Answers.{IsAnswer, of_format, of_fields, IsOfNoKind, Accepts}
use Rattle.ct_files.specs.declared.kind.Kind.{Kind}
use Rattle.ct_files.specs.declared.kind.Kind.TheVariants as kind
use Rattle.ct_files.proofs.KindLaws.{IsInside, laws_of_kind}
use Rattle.ct_fields.specs.Steps.{◌>>=◌}
use Rattle.ct_fields.specs.Format.{format_of}
use Rattle.ct_fields.specs.HasCites.{HasRightFormat}
use Rattle.ct_fields.specs.Schema.{IsAnswerBy}
use Rattle.ct_fields.specs.declared.field.FieldName.TheVariants.{Format}
use Rattle.ct_fields.proofs.StepLemmas.{bind-at, bind-at_err, bind-cases}
use Rattle.ct_fields.proofs.SchemaLemmas.{answers_by, stated-answer, fault-has}
use Rattle.ct_fields.proofs.CiteLemmas.{format_of-ok, format_of-from, format_of-err, format_of-wrong}

-- ---- what is said of each kind

-- a document of the kind names it
kind_in-named : (k : Kind) (document : Data) → IsOfKind (kind_text k) document → kind_in document ≡ Ok k
kind_in-named kind.Words document of_kind = rw of_kind refl
kind_in-named k document of_kind = rw of_kind refl

-- a document of the kind reads as its evidence, once its format is right
pub evidence_of-kind : (k : Kind) (document : Data) → IsOfKind (kind_text k) document
    → evidence_of document ≡ (format_of document >>= (λ _. evidence_by k document))
unfolding evidence_of
evidence_of-kind k document of_kind = bind-at (kind_in document) _ k (kind_in-named k document of_kind)

-- each answer to its fields comes where it is said to come
pub fields_by : (k : Kind) (ms : Members) (answer : Result Evidence DocumentFault) → (evidence_by k (table ms) ≡ answer) ↔ IsAnswerBy [] (schema_of k) (table ms) answer
fields_by k ms answer = answers_by [] (schema_of k) ms (laws_of_kind k).forms answer

-- and so does each answer to the document
answer_by : (k : Kind) (ms : Members) → IsOfKind (kind_text k) (table ms) → IsAnswer k (table ms) (evidence_of (table ms))
answer_by k ms named =
    let P : Result Evidence DocumentFault → Type 0 = IsAnswer k (table ms) in
    subst P (sym (evidence_of-kind k (table ms) named))
    (bind-cases P (format_of (table ms)) (λ _. evidence_by k (table ms))
    (λ f is. of_fields (f, format_of-ok (table ms) f is) ((fields_by k ms (evidence_by k (table ms))).0 refl))
    (λ fault is. let (same, wrong) = format_of-err (table ms) fault is in of_format wrong (ap (λ (f : DocumentFault). Err f) (sym same))))

answer_by-from : (k : Kind) (ms : Members) → IsOfKind (kind_text k) (table ms) → (answer : Result Evidence DocumentFault) → IsAnswer k (table ms) answer
    → evidence_of (table ms) ≡ answer
answer_by-from k ms named answer (of_format wrong same) =
    evidence_of-kind k (table ms) named ∙ bind-at_err (format_of (table ms)) _ (Field Format) (format_of-wrong (table ms) wrong) ∙ sym same
answer_by-from k ms named answer (of_fields (f, has) comes) =
    evidence_of-kind k (table ms) named ∙ bind-at (format_of (table ms)) _ f (format_of-from (table ms) f has) ∙ (fields_by k ms answer).1 comes

answered_by : (k : Kind) (ms : Members) → IsOfKind (kind_text k) (table ms) → (answer : Result Evidence DocumentFault)
    → (evidence_of (table ms) ≡ answer) ↔ IsAnswer k (table ms) answer
answered_by k ms named answer = (λ same. subst (IsAnswer k (table ms)) same (answer_by k ms named), answer_by-from k ms named answer)

-- an evidence is stated by a right format and the fields of a kind, which is its own
pub stated_fields : (k : Kind) (document : Data) (e : Evidence) → IsAnswer k document (Ok e) → HasRightFormat document × IsAnswerBy [] (schema_of k) document (Ok e)
stated_fields k document e (of_format wrong other) = absurd cc
stated_fields k document e (of_fields right states) = (right, states)

of_its_kind : (k : Kind) (document : Data) (e : Evidence) → IsAnswer k document (Ok e) → k ≡ kind_of e
of_its_kind k document e states =
    ((laws_of_kind k).stated document e (stated-answer [] (schema_of k) document e (stated_fields k document e states).1)).kind

-- the faults of bytes and of a kind are none of a document of the kind
inside : (k : Kind) (document : Data) (fault : DocumentFault) → IsAnswer k document (Err fault) → IsInside fault
inside k document fault (of_format wrong is) = let same : Field Format ≡ fault = cc in subst IsInside same tt
inside k document fault (of_fields right comes) = fault-has IsInside (λ name. tt) tt [] (schema_of k) document fault (laws_of_kind k).faults comes

-- ---- documents of any kind

-- a kind that does not stand fails its test
other_kind : (document : Data) → IsOfNoKind document → (k : Kind) → is_of_kind (kind_text k) document ≡ false
other_kind document none k =
    elim (cases_Bool (is_of_kind (kind_text k) document)) [ inl same ↦ absurd (none k (is_of_kind-true (kind_text k) document same)) | inr other ↦ other ]

-- the kinds in the order in which a document is asked for them
abbrev kinds : List Kind
kinds = kind.Words ∷ kind.Cosets ∷ kind.Partition ∷ kind.Build ∷ kind.Product ∷ kind.Dual ∷ kind.JohnsonDual ∷ kind.Odd ∷ kind.JohnsonLocal ∷ []

-- the first of these kinds that a document is of
abbrev kind_among : List Kind → Data → Result Kind DocumentFault
kind_among [] document = Err NoKind
kind_among (k ∷ ks) document = if is_of_kind (kind_text k) document then Ok k else kind_among ks document

kind_in-among : (document : Data) → kind_in document ≡ kind_among kinds document
kind_in-among document = refl

kind_among-other : (ks : List Kind) (document : Data) → IsOfNoKind document → kind_among ks document ≡ Err NoKind
kind_among-other [] document none = refl
kind_among-other (k ∷ ks) document none = rw (other_kind document none k) (kind_among-other ks document none)

-- a document of no kind is refused
evidence_of-other : (document : Data) → IsOfNoKind document → evidence_of document ≡ Err NoKind
unfolding evidence_of
evidence_of-other document none = bind-at_err (kind_in document) _ NoKind (kind_in-among document ∙ kind_among-other kinds document none)

-- the document is of none of these kinds
abbrev NoneOf : List Kind → Data → Type 0
NoneOf [] document = Unit {0}
NoneOf (k ∷ ks) document = ¬ (IsOfKind (kind_text k) document) × NoneOf ks document

none_of_all : (document : Data) → NoneOf kinds document → IsOfNoKind document
none_of_all document none kind.Words = none.0
none_of_all document none kind.Cosets = none.1.0
none_of_all document none kind.Partition = none.1.1.0
none_of_all document none kind.Build = none.1.1.1.0
none_of_all document none kind.Product = none.1.1.1.1.0
none_of_all document none kind.Dual = none.1.1.1.1.1.0
none_of_all document none kind.JohnsonDual = none.1.1.1.1.1.1.0
none_of_all document none kind.Odd = none.1.1.1.1.1.1.1.0
none_of_all document none kind.JohnsonLocal = none.1.1.1.1.1.1.1.1.0

-- the document is of one of these kinds or of none
one_or_none : (ks : List Kind) (document : Data) → ((k : Kind) × IsOfKind (kind_text k) document) ⊎ NoneOf ks document
one_or_none [] document = inr tt
one_or_none (k ∷ ks) document = at (one_or_none ks document) (is_of_kind (kind_text k) document) refl where
  at : ((l : Kind) × IsOfKind (kind_text l) document) ⊎ NoneOf ks document → (b : Bool) → is_of_kind (kind_text k) document ≡ b
      → ((l : Kind) × IsOfKind (kind_text l) document) ⊎ NoneOf (k ∷ ks) document
  at later true same = inl (k, is_of_kind-true (kind_text k) document same)
  at (inl found) false other = inl found
  at (inr none) false other = inr ((λ of_kind. false≢true (sym other ∙ is_of_kind-from (kind_text k) document of_kind)), none)

-- ---- bytes

-- bytes that are not too many read as without the limit
pub read_of-short : (bytes : List ℕ) → length bytes ≤ MAX_DOCUMENT → read_of bytes ≡ read_without_limit bytes
unfolding read_of
read_of-short bytes short = rw (le-leb (length bytes) MAX_DOCUMENT short) refl

-- bytes that are too many are refused with their number
pub read_of-long : (bytes : List ℕ) → MAX_DOCUMENT < length bytes → read_of bytes ≡ Err (Bytes (length bytes))
unfolding read_of
read_of-long bytes long = rw (lt-leb (length bytes) MAX_DOCUMENT long) refl

-- bytes that write a table read as it does
pub read_of-document : (bytes : List ℕ) (document : Data) → IsDocument bytes document → read_of bytes ≡ evidence_of document
unfolding read_without_limit table_of
read_of-document bytes document written =
    let (ms, parsed, same) = written.written in
    read_of-short bytes written.short ∙ rw (is_utf8-from_IsUtf8 bytes written.utf8, parsed, same) refl

-- a test on the length of bytes
pub short_or_long : (bytes : List ℕ) → (length bytes ≤ MAX_DOCUMENT) ⊎ (MAX_DOCUMENT < length bytes)
short_or_long bytes =
    elim (cases_Bool (nat_le (length bytes) MAX_DOCUMENT)) [
      | inl short ↦ inl (leb-true (length bytes) MAX_DOCUMENT short)
      | inr long ↦ inr (leb-false (length bytes) MAX_DOCUMENT long)
    ]

-- the table of bytes that are not too many is the one that they write
pub document_from : (bytes : List ℕ) (document : Data) → length bytes ≤ MAX_DOCUMENT → table_of bytes ≡ Some document → IsDocument bytes document
unfolding table_of
document_from bytes document short e =
    elim (cases_Bool (is_utf8 bytes)) [
      | inl utf8 ↦
          let (ms, parsed, same) = parsed_from (parse_document bytes) (rw utf8 at e) in
          record { short = short; utf8 = IsUtf8-from_is_utf8 bytes utf8; written = (ms, parsed, same) }
      | inr none ↦ let nothing = rw none at e in absurd cc
    ] where
      parsed_from : (parsed : Option Members) → option_map table parsed ≡ Some document → (ms : Members) × (parsed ≡ Some ms) × (document ≡ table ms)
      parsed_from None e = absurd cc
      parsed_from (Some ms) e = let same : table ms ≡ document = cc in (ms, refl, sym same)

-- bytes that read as evidence, however many they are, write a table that does
pub without_limit-table : (bytes : List ℕ) (e : Evidence) → read_without_limit bytes ≡ Ok e → (ms : Members) × (evidence_of (table ms) ≡ Ok e)
unfolding read_without_limit table_of
without_limit-table bytes e read = at (is_utf8 bytes) refl read where
  parsed : (found : Option Members) → parse_document bytes ≡ found → is_utf8 bytes ≡ true → read_without_limit bytes ≡ Ok e → (ms : Members) × (evidence_of (table ms) ≡ Ok e)
  parsed None none utf8 read = let never = rw (utf8, none) at read in absurd cc
  parsed (Some ms) found utf8 read = (ms, rw (utf8, found) at read)

  at : (b : Bool) → is_utf8 bytes ≡ b → read_without_limit bytes ≡ Ok e → (ms : Members) × (evidence_of (table ms) ≡ Ok e)
  at true utf8 read = parsed (parse_document bytes) refl utf8 read
  at false none read = let never = rw none at read in absurd cc

-- bytes have a table, or write none
pub document_or_none : (bytes : List ℕ) → length bytes ≤ MAX_DOCUMENT → ((document : Data) × IsDocument bytes document) ⊎ (table_of bytes ≡ None)
document_or_none bytes short = found (table_of bytes) refl where
  found : (read : Option Data) → table_of bytes ≡ read → ((document : Data) × IsDocument bytes document) ⊎ (table_of bytes ≡ None)
  found None same = inr same
  found (Some document) same = inl (document, document_from bytes document short same)

-- bytes that write no table are refused so
pub read_of-no_table : (bytes : List ℕ) → length bytes ≤ MAX_DOCUMENT → table_of bytes ≡ None → read_of bytes ≡ Err NotToml
unfolding read_without_limit
read_of-no_table bytes short none = read_of-short bytes short ∙ rw none refl

-- where the answer to a document comes, which is of one of the kinds or of none
data DocumentAnswer (document : Data) (answer : Result Evidence DocumentFault) : Type 0 where
  of_kind : (k : Kind) → IsOfKind (kind_text k) document → IsAnswer k document answer → DocumentAnswer document answer
  of_no_kind : IsOfNoKind document → answer ≡ Err NoKind → DocumentAnswer document answer

-- the answer to a table comes where it is said to come, or the kind is refused
table_answer : (ms : Members) → DocumentAnswer (table ms) (evidence_of (table ms))
table_answer ms =
    elim (one_or_none kinds (table ms)) [
      | inl (k, named) ↦ of_kind k named (answer_by k ms named)
      | inr none ↦ let of_none = none_of_all (table ms) none in of_no_kind of_none (evidence_of-other (table ms) of_none)
    ]

-- and so does the answer to bytes that write one
document_answer : (bytes : List ℕ) (document : Data) → IsDocument bytes document → DocumentAnswer document (read_of bytes)
document_answer bytes document written =
    let (ms, parsed, same) = written.written in
    rw (read_of-document bytes document written) (subst (λ (d : Data). DocumentAnswer d (evidence_of d)) (sym same) (table_answer ms))

-- where the answer to bytes comes: they are too many, or write no table, or it is that to a document
data BytesAnswer (bytes : List ℕ) (answer : Result Evidence DocumentFault) : Type 0 where
  long : MAX_DOCUMENT < length bytes → answer ≡ Err (Bytes (length bytes)) → BytesAnswer bytes answer
  no_table : length bytes ≤ MAX_DOCUMENT → table_of bytes ≡ None → answer ≡ Err NotToml → BytesAnswer bytes answer
  of_document : (document : Data) → IsDocument bytes document → DocumentAnswer document answer → BytesAnswer bytes answer

bytes_answer : (bytes : List ℕ) → BytesAnswer bytes (read_of bytes)
bytes_answer bytes =
    elim (short_or_long bytes) [
      | inr many ↦ long many (read_of-long bytes many)
      | inl short ↦
          elim (document_or_none bytes short) [
            | inr none ↦ no_table short none (read_of-no_table bytes short none)
            | inl (document, written) ↦ of_document document written (document_answer bytes document written)
          ]
    ]

-- what is said of each answer to a document of a kind
pub answers : (k : Kind) (bytes : List ℕ) (document : Data) (answer : Result Evidence DocumentFault) → IsDocument bytes document → IsOfKind (kind_text k) document
    → (read_of bytes ≡ answer) ↔ IsAnswer k document answer
answers k bytes document answer written named =
    let (ms, parsed, same) = written.written in
    let read = read_of-document bytes document written in
    let (to, from) =
    subst (λ (d : Data). IsOfKind (kind_text k) d → (evidence_of d ≡ answer) ↔ IsAnswer k d answer) (sym same) (λ here. answered_by k ms here answer) named
    in (λ e. to (sym read ∙ e), λ h. read ∙ from h)

-- what a table reads as, its kind says of it
stated_by : (document : Data) (e : Evidence) → DocumentAnswer document (Ok e) → IsAnswer (kind_of e) document (Ok e)
stated_by document e (of_kind k named states) = subst (λ (l : Kind). IsAnswer l document (Ok e)) (of_its_kind k document e states) states
stated_by document e (of_no_kind none other) = absurd cc

pub table_states : (ms : Members) (e : Evidence) → evidence_of (table ms) ≡ Ok e → IsAnswer (kind_of e) (table ms) (Ok e)
table_states ms e read = stated_by (table ms) e (subst (DocumentAnswer (table ms)) read (table_answer ms))

-- bytes are accepted as an evidence exactly if they write a table that states it
accepted : (bytes : List ℕ) (e : Evidence) → read_of bytes ≡ Ok e → Accepts bytes e
accepted bytes e read = at (rw read at (bytes_answer bytes))
  where
    named_by : (k : Kind) (document : Data) → IsAnswer k document (Ok e) → IsOfKind (kind_text k) document → IsOfKind (kind_text (kind_of e)) document
    named_by k document states named = subst (λ (l : Kind). IsOfKind (kind_text l) document) (of_its_kind k document e states) named

    at : BytesAnswer bytes (Ok e) → Accepts bytes e
    at (long many other) = absurd cc
    at (no_table short none other) = absurd cc
    at (of_document document written (of_no_kind none other)) = absurd cc
    at (of_document document written (of_kind k named answer)) =
        let (format, states) = stated_fields (kind_of e) document e (stated_by document e (of_kind k named answer)) in
        record { document = document; written = written; of_kind = named_by k document answer named; format = format; states = states }

accepted-from : (bytes : List ℕ) (e : Evidence) → Accepts bytes e → read_of bytes ≡ Ok e
accepted-from bytes e a = (answers (kind_of e) bytes a.document (Ok e) a.written a.of_kind).1 (of_fields a.format a.states)

pub accepts : (bytes : List ℕ) (e : Evidence) → (read_of bytes ≡ Ok e) ↔ Accepts bytes e
accepts bytes e = (accepted bytes e, accepted-from bytes e)

-- the kind of a document is refused exactly where it is another one
pub no_kind : (bytes : List ℕ) (document : Data) → IsDocument bytes document → (read_of bytes ≡ Err NoKind) ↔ IsOfNoKind document
no_kind bytes document written = (
  λ e k named. inside k document NoKind ((answers k bytes document (Err NoKind) written named).0 e),
  λ other. read_of-document bytes document written ∙ evidence_of-other document other,
)

-- bytes are refused for their number exactly where they are too many
pub too_many : (bytes : List ℕ) (b : ℕ) → (read_of bytes ≡ Err (Bytes b)) ↔ ((b ≡ length bytes) × (MAX_DOCUMENT < length bytes))
too_many bytes b = (λ e. only (rw e at (bytes_answer bytes)), λ h. read_of-long bytes h.1 ∙ ap (λ k. Err (Bytes k)) (sym h.0))
  where
    only : BytesAnswer bytes (Err (Bytes b)) → (b ≡ length bytes) × (MAX_DOCUMENT < length bytes)
    only (long many is) = let same : b ≡ length bytes = cc in (same, many)
    only (no_table short none other) = absurd cc
    only (of_document document written (of_no_kind none other)) = absurd cc
    only (of_document document written (of_kind k named answer)) = absurd (inside k document (Bytes b) answer)

-- bytes are refused as no TOML exactly where they are not too many and write no table
pub no_tables : (bytes : List ℕ) → (read_of bytes ≡ Err NotToml) ↔ ((length bytes ≤ MAX_DOCUMENT) × ((document : Data) → ¬ (IsDocument bytes document)))
no_tables bytes = (λ e. (only (rw e at (bytes_answer bytes)), λ document written. never (rw e at (document_answer bytes document written))), from)
  where
    never : {document : Data} → DocumentAnswer document (Err NotToml) → ⊥
    never (of_kind k named answer) = inside k _ NotToml answer
    never (of_no_kind none other) = absurd cc

    only : BytesAnswer bytes (Err NotToml) → length bytes ≤ MAX_DOCUMENT
    only (long many other) = absurd cc
    only (no_table short none is) = short
    only (of_document document written answer) = absurd (never answer)

    from : (length bytes ≤ MAX_DOCUMENT) × ((document : Data) → ¬ (IsDocument bytes document)) → read_of bytes ≡ Err NotToml
    from (short, none) =
        elim (document_or_none bytes short) [
          | inr nothing ↦ read_of-no_table bytes short nothing
          | inl (document, written) ↦ absurd (none document written)
        ]
