-- What bytes and tables read as, once a part of it is read.
use Rattle.std.proofs.Common.{◌≡◌, ◌<◌, ℕ, List, length, Result, Ok, Err, sym, ap, ◌∙◌}
use Rattle.std.proofs.lemmas.Bool.{lt-leb}
use Rattle.toml.specs.Data.{Data}
use Rattle.ct_fields.specs.Cites.{cites_of}
use Rattle.ct_fields.specs.Document.{read_table}
use Rattle.ct_fields.specs.Steps.{◌>>=◌, ◌>>◌, check}
use Rattle.ct_fields.specs.declared.document.TheConstants.{MAX_DOCUMENT}
use Rattle.ct_fields.specs.declared.fault.DocumentFault.{DocumentFault}
use Rattle.ct_fields.specs.declared.fault.DocumentFault.TheVariants.{Bytes}
use Rattle.ct_kind.specs.declared.evidence.Evidence.{Evidence}
use Rattle.ct_files.specs.Document.{DocumentValue, document_of, document_without_limit, document_read_of}
use Rattle.ct_files.specs.Evidence.{evidence_of, read_without_limit}

-- bytes read as the table that they write
pub evidence-table : (bytes : List ℕ) (written : Data) → read_table bytes ≡ Ok written → evidence_of written ≡ read_without_limit bytes
unfolding read_without_limit
evidence-table bytes written is = ap (λ (read : Result Data DocumentFault). read >>= evidence_of) (sym is)

pub document-table : (bytes : List ℕ) (written : Data) → read_table bytes ≡ Ok written → document_of written ≡ document_without_limit bytes
unfolding document_without_limit
document-table bytes written is = ap (λ (read : Result Data DocumentFault). read >>= document_of) (sym is)

-- the fault of the cites is that of the document
pub document-no_cites : (written : Data) (e : Evidence) (fault : DocumentFault) → evidence_of written ≡ Ok e → cites_of written ≡ Err fault
    → document_of written ≡ Err fault
unfolding document_of
document-no_cites written e fault is wrong =
    let put : Evidence → List (List ℕ) → Result DocumentValue DocumentFault = λ f cites. Ok (record { evidence = f; cites = cites }) in
    ap (λ (read : Result Evidence DocumentFault). read >>= (λ (f : Evidence). cites_of written >>= put f)) is
    ∙ ap (λ (read : Result (List (List ℕ)) DocumentFault). read >>= put e) wrong

-- bytes that are too many are no document
pub document-long : (bytes : List ℕ) → MAX_DOCUMENT < length bytes → document_read_of bytes ≡ Err (Bytes (length bytes))
unfolding document_read_of
document-long bytes long =
    ap (λ b. check b (Bytes (length bytes)) >> document_without_limit bytes) (lt-leb (length bytes) MAX_DOCUMENT long)
