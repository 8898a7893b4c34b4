-- What is written for an evidence is within the limit of a document.
use Rattle.std.proofs.Common.{◌≡◌, ℕ, ◌≤◌, List, length, Some, Result, Ok, Err, IfOk, ap, subst, ◌∙◌, arith}
use Rattle.toml.specs.Data.{Members, table}
use Rattle.ct_fields.specs.Document.{table_of}
use Rattle.ct_fields.specs.Inside.Room.{IsSimpleTable, table_room}
use Rattle.ct_kind.specs.declared.evidence.Evidence.{Evidence}
use Rattle.ct_files.specs.Evidence.{IsSound, read_of}
use Rattle.ct_files.specs.Lengths.{most_bytes}
use Rattle.ct_files.specs.Inside.Written.{evidence_table, HasIds}
use Rattle.ct_files.proofs.KindLaws.{laws_of}
use Rattle.ct_files.proofs.DocumentAnswers.{read_of-short}
use Rattle.ct_files.proofs.Written.{read-written}

-- bytes that write the table have no more than so many
pub written-short : (e : Evidence) (ms : Members) (bytes : List ℕ) → IsSound e → HasIds e → ms ≡ evidence_table e
    → (IsSimpleTable ms → length bytes ≤ table_room ms) → length bytes ≤ most_bytes e
written-short e ms bytes sound ids is room =
    let h = (laws_of e sound ids).holds in
    let small = h.small in
    let short = subst (λ (t : Members). IsSimpleTable t → length bytes ≤ table_room t) is room h.simple in
    omega (arith, short, small)

-- so they read as the evidence
pub written-read : (e : Evidence) (ms : Members) (bytes : List ℕ) → IsSound e → HasIds e → ms ≡ evidence_table e → table_of bytes ≡ Some (table ms)
    → (IsSimpleTable ms → length bytes ≤ table_room ms) → read_of bytes ≡ Ok e
written-read e ms bytes sound ids is written room =
    let short = written-short e ms bytes sound ids is room in
    let within = (laws_of e sound ids).few in
    read_of-short bytes (omega (arith, short, within)) ∙ read-written e bytes sound ids (written ∙ ap (λ (t : Members). Some (table t)) is)

-- what holds of a result by one fact and another
pub IfOk-both : {X E : Type 0} (r : Result X E) (P Q R : X → Type 0) → ((x : X) → P x → Q x → R x) → IfOk r P → IfOk r Q → IfOk r R
IfOk-both {X} {E} (Ok x) P Q R both p q = both x p q
IfOk-both {X} {E} (Err e) P Q R both p q = tt
