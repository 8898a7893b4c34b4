-- What an evidence keeps that is read.
use Rattle.std.proofs.Common.{◌≡◌, ℕ, ◌≤◌, List, [], length, Result, Ok, Err, IfOk, inl, inr, sym, ◌∙◌}
use Rattle.toml.specs.Data.{table}
use Rattle.ct_fields.specs.Reads.{Reads}
use Rattle.ct_fields.specs.declared.document.TheConstants.{MAX_DOCUMENT}
use Rattle.ct_fields.specs.declared.fault.DocumentFault.{DocumentFault}
use Rattle.ct_fields.proofs.SchemaLemmas.{stated-answer}
use Rattle.ct_kind.specs.declared.evidence.Evidence.{Evidence}
use Rattle.ct_files.specs.Evidence.{read_without_limit, read_of, IsSound}
use Rattle.ct_files.specs.Kinds.{kind_of, schema_of}
use Rattle.ct_files.proofs.KindLaws.{IsOfKind, laws_of_kind}
use Rattle.ct_files.proofs.DocumentAnswers.{stated_fields, table_states, without_limit-table, short_or_long, read_of-short, read_of-long}

-- evidence that bytes read as is of its kind, however many they are
pub read_without_limit-of_kind : (bytes : List ℕ) (e : Evidence) → read_without_limit bytes ≡ Ok e → IsOfKind (kind_of e) e
read_without_limit-of_kind bytes e read =
    let (ms, states) = without_limit-table bytes e read in
    (laws_of_kind (kind_of e)).stated (table ms) e
    (stated-answer [] (schema_of (kind_of e)) (table ms) e (stated_fields (kind_of e) (table ms) e (table_states ms e states)).1)

-- so it is sound
pub read_without_limit-sound : (bytes : List ℕ) (e : Evidence) → read_without_limit bytes ≡ Ok e → IsSound e
read_without_limit-sound bytes e read = (read_without_limit-of_kind bytes e read).sound

-- bytes that read as evidence are within the limit, and read as it without the limit
pub read_of-within : (bytes : List ℕ) (e : Evidence) → read_of bytes ≡ Ok e → length bytes ≤ MAX_DOCUMENT
read_of-within bytes e read = elim (short_or_long bytes) [
  | inl within ↦ within
  | inr many ↦ let never = sym read ∙ read_of-long bytes many in absurd cc
]

pub read_of-without_limit : (bytes : List ℕ) (e : Evidence) → read_of bytes ≡ Ok e → read_without_limit bytes ≡ Ok e
read_of-without_limit bytes e read = sym (read_of-short bytes (read_of-within bytes e read)) ∙ read

-- evidence that is read is sound
pub read_of-sound : (bytes : List ℕ) (e : Evidence) → read_of bytes ≡ Ok e → IsSound e
read_of-sound bytes e read = read_without_limit-sound bytes e (read_of-without_limit bytes e read)

-- an answer that is what the bytes give is sound
pub Reads-sound : (bytes : List ℕ) (answer : Result Evidence DocumentFault) → Reads (λ e. e) answer (read_of bytes) → IfOk answer IsSound
Reads-sound bytes (Ok e) reads = read_of-sound bytes e reads
Reads-sound bytes (Err fault) reads = tt
