-- The text that is written for an evidence.
use Rattle.std.proofs.Common.{◌≤◌, Some, None, Ok, ◌≡◌, ℕ, List, [], inl, refl, ◌∙◌}
use Rattle.toml.specs.Data.{table, get, members_depth}
use Rattle.ct_fields.specs.Field.{field_text}
use Rattle.ct_fields.specs.Format.{format_of}
use Rattle.ct_fields.specs.Document.{table_of}
use Rattle.ct_fields.specs.declared.field.FieldName.TheVariants.{Format}
use Rattle.ct_fields.proofs.StepLemmas.{bind-at}
use Rattle.ct_fields.proofs.CiteLemmas.{format_of-from}
use Rattle.ct_fields.proofs.LastLemmas.{own-none}
use Rattle.ct_fields.proofs.WrittenSchema.{kind-written, no_format-written, reads-back}
use Rattle.ct_kind.specs.declared.evidence.Evidence.{Evidence}
use Rattle.ct_files.specs.Evidence.{IsSound, evidence_of, read_without_limit}
use Rattle.ct_files.specs.Inside.Written.{fields_of, evidence_table, HasIds}
use Rattle.ct_files.specs.Kinds.{kind_of, kind_text, schema_of, evidence_by}
use Rattle.ct_files.proofs.KindLaws.{laws_of_kind, laws_of}
use Rattle.ct_files.proofs.DocumentAnswers.{evidence_of-kind}

-- the table of an evidence is no deeper than a document may be
pub evidence_depth : (e : Evidence) → IsSound e → HasIds e → members_depth (evidence_table e) ≤ 80
evidence_depth e sound ids = (laws_of e sound ids).depth

-- it says no format, and its fields state the evidence
pub unformatted : (e : Evidence) → IsSound e → HasIds e → get (field_text Format) (table (evidence_table e)) ≡ None
unformatted e sound ids =
    no_format-written (kind_text (kind_of e)) [] (schema_of (kind_of e)) (fields_of e) (Ok e) (laws_of_kind (kind_of e)).forms own-none (laws_of e sound ids).writes

pub fields-read : (e : Evidence) → IsSound e → HasIds e → evidence_by (kind_of e) (table (evidence_table e)) ≡ Ok e
fields-read e sound ids =
    reads-back (kind_text (kind_of e)) [] (schema_of (kind_of e)) (fields_of e) (Ok e) (laws_of_kind (kind_of e)).forms own-none (laws_of e sound ids).writes

-- so it reads as the evidence
evidence_of-evidence_table : (e : Evidence) → IsSound e → HasIds e → evidence_of (table (evidence_table e)) ≡ Ok e
evidence_of-evidence_table e sound ids =
    evidence_of-kind (kind_of e) (table (evidence_table e)) (kind-written (kind_text (kind_of e)) (fields_of e))
    ∙ bind-at (format_of (table (evidence_table e))) _ 1 (format_of-from (table (evidence_table e)) 1 (inl (unformatted e sound ids, refl)))
    ∙ fields-read e sound ids

-- bytes that write the table of an evidence read as the evidence
pub read-written : (e : Evidence) (bytes : List ℕ) → IsSound e → HasIds e → table_of bytes ≡ Some (table (evidence_table e)) → read_without_limit bytes ≡ Ok e
unfolding read_without_limit
read-written e bytes sound ids written = rw written (evidence_of-evidence_table e sound ids)
