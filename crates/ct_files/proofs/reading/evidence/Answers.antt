use Rattle.std.proofs.Common.{◌≡◌, ℕ, Result, Ok, ap, subst, ◌∙◌}
use Rattle.toml.specs.Data.{Data}
use Rattle.toml.specs.View.{view}
use Rattle.ct_fields.specs.Format.{format_of}
use Rattle.ct_fields.specs.Reads.{Reads}
use Rattle.ct_fields.specs.Steps.{◌>>=◌, ◌>>◌}
use Rattle.ct_fields.specs.declared.fault.DocumentFault.{DocumentFault}
use Rattle.ct_kind.specs.declared.evidence.Evidence.{Evidence}
use Rattle.ct_files.specs.Evidence.{evidence_of}
use Rattle.ct_files.specs.Kinds.{kind_in, evidence_by}
use Rattle.ct_files.specs.declared.kind.Kind.{Kind}
use Rattle.ct_files.proofs.reading.evidence.Goals as goal

-- the evidence of a document whose kind is known, and whose format is right
of_kind : (document : Data) (kind : Kind) (format : ℕ) → Ok kind ≡ kind_in document → Ok format ≡ format_of document
    → evidence_by kind document ≡ evidence_of document
unfolding evidence_of
of_kind document kind format named formed =
    ap (λ (read : Result ℕ DocumentFault). read >> evidence_by kind document) formed
    ∙ ap (λ (read : Result Kind DocumentFault). read >>= (λ (k : Kind). format_of document >> evidence_by k document)) named

pub returns : goal.returns
returns c =
    let same = of_kind (view c.args.document.now) c.in_ok-kind.kind c.in_ok-format_of.field-0 c.in_ok-kind.ensures c.in_ok-format_of.ensures in
    subst (λ (read : Result Evidence DocumentFault). Reads (λ (evidence : Evidence). evidence) c.evidence_by.result read) same c.evidence_by.ensures
